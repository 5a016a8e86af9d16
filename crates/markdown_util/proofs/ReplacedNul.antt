-- A text without NUL is read as it is.
use Rattle.std.proofs.Common.{◌≡◌, ◌==◌, ◌∙◌, refl, sym, ap, ℕ, true, false, List, [], ◌∷◌, map, IsUtf8}
use Rattle.std.specs.List.{list_any}
use Rattle.std.specs.Str.{chars, encode_utf8_all}
use Rattle.std.proofs.lemmas.Bool.{or_parts}
use Rattle.std.proofs.lemmas.Str.{encodes-chars}
use Rattle.markdown_util.specs.Identifier.{identifier_by, identifier_of, replaced_nul}

none-replaced : (cs : List ℕ) → list_any (λ c. c == 0) cs ≡ false → map replaced_nul cs ≡ cs
none-replaced [] h = refl
none-replaced (c ∷ cs) h =
    let parts = or_parts (c == 0) (list_any (λ c. c == 0) cs) h in
    rw parts.0 (ap (λ ds. c ∷ ds) (none-replaced cs parts.1))

pub without-nul : (text : List ℕ) → IsUtf8 text → list_any (λ c. c == 0) (chars text) ≡ false → identifier_of text ≡ identifier_by true text
without-nul text u h = ap identifier_of (sym (ap encode_utf8_all (none-replaced (chars text) h) ∙ encodes-chars text u))
