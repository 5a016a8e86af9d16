-- Domains and trails, read beforehand over the codes of a content.
use Rattle.std.specs.Prelude.{◌≡◌, ℕ, zero, suc, ◌+◌, ◌-◌, ◌<◌, nat_lt, Bool, true, false, ◌&&◌, ◌==◌, if◌then◌else◌, List, [], ◌∷◌, length, Option, Some, None}
use Rattle.std.specs.Str.{byte}
use Rattle.markdown_content.specs.Codes.{Code}
use Rattle.markdown_content.specs.Place.{Place, ahead_at, moved}
use Rattle.markdown_model.specs.CodeTests.{is_value}
use Rattle.markdown_plan.specs.ByteTests.{letter_value}
use Rattle.markdown_model.specs.GfmAutolinkLiteral.{domain_from, is_domain_code}
use Rattle.markdown_leaf_gfm.specs.Trails.{trails_in}
use Rattle.markdown_leaf_gfm.specs.DomainOutlook.{begins_www}
use Rattle.markdown_leaf_gfm.specs.declared.domain_outlook.Look.{Look}
use Rattle.markdown_leaf_gfm.specs.declared.domain_outlook.Look.TheVariants.{GoesOn, Ends}
use Rattle.markdown_leaf_gfm.specs.declared.domain_outlook.Outlook.{Outlook}

-- what a look for a trail comes to at a code, which is this one: with `Some` it stands behind a `&`
abbrev pub IsLook : List ℕ → Option Bool → Place → ℕ → Look → Type 0
IsLook bytes name p v (GoesOn next) = (trails_in bytes p.end.index name (ahead_at p) ≡ trails_in bytes p.end.index next (ahead_at (moved p))) × (nat_lt v 128 ≡ true)
IsLook bytes name p v (Ends answer) = trails_in bytes p.end.index name (ahead_at p) ≡ answer

-- what it comes to behind a `&`, and behind letters if they are seen
abbrev pub name_look : Bool → ℕ → Look
name_look seen v =
    if letter_value v then GoesOn (Some true)
    else (if seen && v == byte ";" then GoesOn None else Ends false)

-- a domain goes on over the code at the place
abbrev pub goes_on : List ℕ → Place → Bool
goes_on bytes p = is_domain_code bytes p.end.index (ahead_at p)

-- the codes of the domain that begins at the place
abbrev pub domain_at : List ℕ → Place → List Code
domain_at bytes p = (domain_from bytes p.end.index (ahead_at p)).0

abbrev pub dots_in : List Code → ℕ
dots_in [] = 0
dots_in (c ∷ cs) = if is_value (byte ".") c then suc (dots_in cs) else dots_in cs

-- fewer than two
abbrev pub is_few : ℕ → Bool
is_few zero = true
is_few (suc zero) = true
is_few (suc (suc n)) = false

-- so many codes of a domain, as below, with one more in front, which may be a `_`, where so many dots stand behind it
abbrev pub barred_with : Bool → ℕ → ℕ → ℕ
barred_with underscore zero dots = if underscore && is_few dots then 1 else 0
barred_with underscore (suc n) dots = suc (suc n)

-- how many codes of a domain stand up to the last `_` that is in one of its last two parts; none without such a `_`
abbrev pub barred_in : List Code → ℕ
barred_in [] = 0
barred_in (c ∷ cs) = barred_with (is_value (byte "_") c) (barred_in cs) (dots_in cs)

-- behind a code of a domain, where so many codes stand before: how many stand before the place behind the last `_`, 0 without one, and how
-- many dots behind it, two at most
abbrev pub behind_code : ℕ → ℕ → ℕ → ℕ → ℕ × ℕ
behind_code v at barred dots =
    if v == byte "_" then (at, 0)
    else (if v == byte "." && nat_lt dots 2 then (barred, dots + 1) else (barred, dots))

-- so many codes stand before the place behind the last `_` in one of the last two parts, where this is the rest of a domain behind so many codes
abbrev pub barred_by : ℕ → ℕ → ℕ → List Code → ℕ
barred_by at barred dots [] = if nat_lt dots 2 then barred else 0
barred_by at barred dots (c ∷ cs) =
    let behind = behind_code c.value (suc at) barred dots in
    barred_by (suc at) behind.0 behind.1 cs

-- what is known at a place that the domain reaches over, as how many codes stand before its end, and before the place behind that `_`
pub record ReachesOver (bytes : List ℕ) (p : Place) (o : Outlook) : Type 0 where
  pub ends : p.at < o.end → o.end ≡ p.at + length (domain_at bytes p)
  pub bars : p.at < o.end → o.barred - p.at ≡ barred_in (domain_at bytes p)

-- the first letter of `www.` is at hand
abbrev pub www_at : Option ℕ → Bool
www_at None = false
www_at (Some v) = begins_www v

-- at which codes a walk stops
abbrev pub underscores : List ℕ
underscores = byte "_" ∷ []
