-- What is known beforehand of the domains that begin behind a `_`.
use Rattle.std.specs.Prelude.{◌≡◌, ℕ, suc, ◌+◌, Bool, false, ◌&&◌, ◌||◌, not, ◌==◌, if◌then◌else◌, cond, List, [], ◌∷◌, reverse, Option, Some, None}
use Rattle.std.specs.Str.{byte}
use Rattle.markdown_content.specs.Codes.{Code}
use Rattle.markdown_event.specs.PlaceIndex.{is_kept}
use Rattle.markdown_model.specs.CodeTests.{is_value, next_is}
use Rattle.markdown_model.specs.GfmAutolinkLiteral.{last_parts_plain, domain_from}

-- the first letter of `www.`, in either case
abbrev pub begins_www : ℕ → Bool
begins_www v = v == byte "w" || v == byte "W"

-- behind a `_` a literal from `www.` on may begin
abbrev pub opens_www : List Code → Bool
opens_www [] = false
opens_www (c ∷ cs) = is_value (byte "_") c && next_is (λ d. begins_www d.value) cs

-- how often that is so
abbrev pub openings : List Code → ℕ
openings [] = 0
openings (c ∷ cs) = cond (opens_www (c ∷ cs)) 1 0 + openings cs

-- `bytes` is the document, and `end` the index where the content ends.
module _ (bytes : List ℕ) (end : ℕ) where
  -- what would be read as a domain from here on holds a `_` in one of its last two parts
  abbrev pub is_barred : List Code → Bool
  is_barred cs = not (last_parts_plain 0 (reverse (domain_from bytes end cs).0))

  -- the places behind a `_`, as so many codes before them, at which a literal from `www.` on may begin and that is so; so many codes
  -- stand before these
  abbrev pub barred_from : ℕ → List Code → List ℕ
  barred_from at [] = []
  barred_from at (c ∷ cs) =
      let next = barred_from (suc at) cs in
      if opens_www (c ∷ cs) && is_barred cs then suc at ∷ next else next

  abbrev pub no_domains : List Code → List ℕ
  no_domains cs = barred_from 0 cs

-- it is known that no domain begins behind so many codes; nothing is known of `None`
abbrev pub rules_out : Option (List ℕ) → ℕ → Bool
rules_out None at = false
rules_out (Some places) at = is_kept at places

-- what is known, if anything, is right for these codes
abbrev pub KnowsNoDomains : List ℕ → ℕ → List Code → Option (List ℕ) → Type 0
KnowsNoDomains bytes end cs index = (places : List ℕ) → index ≡ Some places → places ≡ no_domains bytes end cs
