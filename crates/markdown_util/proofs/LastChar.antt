-- The last character of a text.
use Rattle.std.proofs.Common.{◌≡◌, refl, ◌∙◌, sym, ap, subst, append-nil, ℕ, ◌-◌, List, [], ◌∷◌, ◌++◌, length, take, Some, None, Option, MatchOption, arith}
use Rattle.std.specs.Char.{IsScalar, encode_utf8}
use Rattle.std.specs.List.{slice_get}
use Rattle.std.specs.Str.{IsUtf8, chars}
use Rattle.std.proofs.Math.Seq.{take-append_seam}
use Rattle.std.proofs.lemmas.List.{nil_from_length}
use Rattle.std.proofs.lemmas.Grind.{common_steps}
use Rattle.std.proofs.lemmas.Option.{gets}
use Rattle.std.proofs.lemmas.Str.{IsUtf8-encode, IsUtf8-take, IsCharBoundary-at_seam, chars-append, chars_past_char, chars-nil}

last_of_push : (xs : List ℕ) (x : ℕ) → slice_get (xs ++ x ∷ []) (length (xs ++ x ∷ []) - 1) ≡ Some x
last_of_push xs x = grind (arith, common_steps, gets)

-- a text that ends with the bytes of a character has that character last
pub last_char : (bs rest : List ℕ) (c : ℕ) → IsUtf8 bs → IsScalar c → bs ≡ rest ++ encode_utf8 c →
    slice_get (chars bs) (length (chars bs) - 1) ≡ Some c
last_char bs rest c u s e =
    let alone = IsUtf8-encode c s in
    let front : IsUtf8 rest =
    subst IsUtf8 (ap (take (length rest)) e ∙ take-append_seam rest (encode_utf8 c))
    (IsUtf8-take bs (length rest) u (IsCharBoundary-at_seam bs rest (encode_utf8 c) e alone)) in
    let only : chars (encode_utf8 c) ≡ c ∷ [] =
    chars_past_char (encode_utf8 c) [] c alone (sym (append-nil (encode_utf8 c))) ∙ ap (λ cs. c ∷ cs) chars-nil in
    rw (ap chars e ∙ chars-append rest (encode_utf8 c) front ∙ ap (λ cs. chars rest ++ cs) only) (last_of_push (chars rest) c)

-- what `next_back` gives of a text is its last character
pub last_from_back : (seen bs rest : List ℕ) (r : Option ℕ) (Same : Type 0) → seen ≡ bs → IsUtf8 bs → MatchOption r (Unit {0}) IsScalar
    → MatchOption r ((length seen ≡ 0) × Same) (λ c. seen ≡ rest ++ encode_utf8 c) → r ≡ slice_get (chars bs) (length (chars bs) - 1)
last_from_back seen bs rest None Same e u s step =
    rw (nil_from_length bs (sym (ap length e) ∙ step.0), chars-nil) refl
last_from_back seen bs rest (Some c) Same e u s step = sym (last_char bs rest c u s (sym e ∙ step))
