-- The order of places.
use Rattle.std.proofs.Common.{ℕ, Bool, true, false, not, ◌&&◌, ◌||◌, nat_lt, ◌==◌, ◌≡◌, arith}
use Rattle.std.proofs.lemmas.Bool.Decides.{nat_tests}
use Rattle.markdown_content.specs.Codes.{is_at_or_after}

-- the first stands before the second
abbrev pub is_before : ℕ × ℕ → ℕ × ℕ → Bool
is_before x y = nat_lt x.0 y.0 || (x.0 == y.0 && nat_lt x.1 y.1)

pub before-self : (x : ℕ × ℕ) → is_before x x ≡ false
before-self x = grind (arith, nat_tests)

mixed-numbers : (a b c d e f : ℕ) → is_before (a, b) (c, d) ≡ true → is_before (a, b) (e, f) ≡ false →
    is_before (c, d) (e, f) ≡ false
mixed-numbers a b c d e f h k = grind (arith, nat_tests)

-- what is not after the first is not after the second
pub not_before-later : (x y at : ℕ × ℕ) → is_before x y ≡ true → is_before x at ≡ false → is_before y at ≡ false
not_before-later x y at h k = mixed-numbers x.0 x.1 y.0 y.1 at.0 at.1 h k

le-numbers : (a b c d e f : ℕ) → is_before (a, b) (c, d) ≡ false → is_before (c, d) (e, f) ≡ false →
    is_before (a, b) (e, f) ≡ false
le-numbers a b c d e f h k = grind (arith, nat_tests)

pub not_before-trans : (x y z : ℕ × ℕ) → is_before x y ≡ false → is_before y z ≡ false → is_before x z ≡ false
not_before-trans x y z h k = le-numbers x.0 x.1 y.0 y.1 z.0 z.1 h k

asym-numbers : (a b c d : ℕ) → is_before (a, b) (c, d) ≡ true → is_before (c, d) (a, b) ≡ false
asym-numbers a b c d h = grind (arith, nat_tests)

pub before-asym : (x y : ℕ × ℕ) → is_before x y ≡ true → is_before y x ≡ false
before-asym x y h = asym-numbers x.0 x.1 y.0 y.1 h

same-numbers : (a b c d : ℕ) → is_before (a, b) (c, d) ≡ false → is_before (c, d) (a, b) ≡ false → (a ≡ c) × (b ≡ d)
same-numbers a b c d h k = grind (arith, nat_tests)

pub same_place : (x y : ℕ × ℕ) → is_before x y ≡ false → is_before y x ≡ false → (x.0 ≡ y.0) × (x.1 ≡ y.1)
same_place x y h k = same-numbers x.0 x.1 y.0 y.1 h k

after-numbers : (a b c d : ℕ) → is_at_or_after (a, b) (c, d) ≡ not (is_before (c, d) (a, b))
after-numbers a b c d = grind (arith, nat_tests)

pub at_or_after-is : (low at : ℕ × ℕ) → is_at_or_after low at ≡ not (is_before at low)
at_or_after-is low at = after-numbers low.0 low.1 at.0 at.1

reach-numbers : (a b c d e f : ℕ) → is_before (a, b) (c, d) ≡ true → is_before (e, f) (c, d) ≡ false →
    is_before (a, b) (e, f) ≡ true
reach-numbers a b c d e f h k = grind (arith, nat_tests)

pub before-reach : (x y z : ℕ × ℕ) → is_before x y ≡ true → is_before z y ≡ false → is_before x z ≡ true
before-reach x y z h k = reach-numbers x.0 x.1 y.0 y.1 z.0 z.1 h k
