-- Texts of one character.
use Rattle.std.proofs.Common.{◌≡◌, ◌∙◌, sym, ap, ℕ, List, ◌∷◌, ◌++◌, length, None, Some}
use Rattle.std.specs.Char.{encode_utf8}
use Rattle.std.specs.Str.{IsUtf8, chars}
use Rattle.std.proofs.lemmas.List.{nil_from_length}
use Rattle.std.proofs.lemmas.Str.{IsUtf8-past_char, chars-nil, chars_past_char}
use Rattle.markdown_inline_c.specs.References.{only}

pub only_ends : (bs rest : List ℕ) (c : ℕ) → IsUtf8 bs → bs ≡ encode_utf8 c ++ rest → length rest ≡ 0 → Some c ≡ only (chars bs)
only_ends bs rest c u e l = sym (ap only (chars_past_char bs rest c u e ∙ ap (λ xs. c ∷ chars xs) (nil_from_length rest l) ∙ ap (λ cs. c ∷ cs) chars-nil))

pub only_goes_on : (bs rest more : List ℕ) (c d : ℕ) → IsUtf8 bs → bs ≡ encode_utf8 c ++ rest → rest ≡ encode_utf8 d ++ more → None ≡ only (chars bs)
only_goes_on bs rest more c d u e f =
    sym (ap only (chars_past_char bs rest c u e ∙ ap (λ cs. c ∷ cs) (chars_past_char rest more d (IsUtf8-past_char bs rest c u e) f)))
