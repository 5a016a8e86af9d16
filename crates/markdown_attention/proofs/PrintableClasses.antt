-- The class of a printable character of ASCII, which is the same by all rules.
use Rattle.std.proofs.Common.{◌≡◌, ℕ, ◌≤◌, ◌<◌, ◌==◌, ◌&&◌, ◌||◌, nat_le, Bool, true, false, Some, refl, ap, ◌∙◌, arith}
use Rattle.std.proofs.Math.Bool.{and-false}
use Rattle.std.proofs.lemmas.Bool.{lt-leb, ne_eqb}
use Rattle.std.specs.Char.{is_ascii_punctuation}
use Rattle.markdown_content.specs.declared.configuration.Rules.{Rules}
use Rattle.markdown_util.specs.Neighbours.{class_by, class_of, listed_class_of, is_listed_space, is_punctuation}
use Rattle.markdown_util.specs.declared.util.char.Kind.{Kind}
use Rattle.markdown_util.proofs.AsciiClasses.{white_space_ascii, listed_space_ascii, punctuation_ascii}
use Rattle.markdown_model.specs.Runs.{as_read, class_beside}

-- the class of a character that is a space or not, and punctuation or not
abbrev pub kind_by : Bool → Bool → Kind
kind_by s p = elim s [ true ↦ Kind.Whitespace | false ↦ elim p [ true ↦ Kind.Punctuation | false ↦ Kind.Other ] ]

kind-of : (is_space : ℕ → Bool) (c : ℕ) (s p : Bool) → is_space c ≡ s → is_punctuation c ≡ p → class_by is_space (Some c) ≡ kind_by s p
kind-of is_space c s p h k = ap (λ t. kind_by t (is_punctuation c)) h ∙ ap (kind_by s) k

by-last : (a b d : Bool) → b ≡ false → (a && b) || d ≡ d
by-last true true d h = cc
by-last true false d h = refl
by-last false b d h = refl

by-fifth : (p q r s d : Bool) → p ≡ false → q ≡ false → r ≡ false → s ≡ false → (p || (q || (r || s))) || d ≡ d
by-fifth p q r s d e f g h = rw (e, f, g, h) refl

no-range : (a b d e f g h i : Bool) → b ≡ false → e ≡ false → g ≡ false → h ≡ false → ((a && b) || (d && e)) || ((f && g) || (h && i)) ≡ false
no-range a b d e f g h i p q r s = rw (p, q, r, s, and-false a, and-false d, and-false f) refl

-- no small letter is punctuation
pub letter-unmarked : (c : ℕ) → 97 ≤ c → c ≤ 122 → is_ascii_punctuation c ≡ false
letter-unmarked c low high =
    no-range (nat_le 33 c) (nat_le c 47) (nat_le 58 c) (nat_le c 64) (nat_le 91 c) (nat_le c 96) (nat_le 123 c) (nat_le c 126) (lt-leb c 47 (omega arith)) (lt-leb c 64 (omega arith)) (lt-leb c 96 (omega arith)) (lt-leb 123 c (omega arith))

module _ (c : ℕ) (low : 32 ≤ c) (high : c < 127) where
  listed-is : is_listed_space c ≡ (c == 32)
  listed-is = grind (arith, listed_space_ascii, by-fifth, ne_eqb)

  read-is : (r : Rules) → as_read r (Some c) ≡ Some c
  read-is r = grind (arith, ne_eqb)

  pub class-is : (r : Rules) (s p : Bool) → (c == 32) ≡ s → is_ascii_punctuation c ≡ p → class_beside r (Some c) ≡ kind_by s p
  unfolding class_beside class_of listed_class_of
  class-is r s p e f = grind (arith, read-is, kind-of, listed-is, punctuation_ascii, white_space_ascii, by-last, lt-leb)
