-- Tests, and what follows of their parts.
use Rattle.std.proofs.Common.{◌≡◌, ℕ, ◌==◌, ◌||◌, Bool, true, false, refl, ap}
use Rattle.std.proofs.lemmas.Bool.{eqb-true}

-- what is computed from a value, where a test has found it
pub same-value : (v n : ℕ) → (v == n) ≡ true → (f : ℕ → Bool) → f v ≡ f n
same-value v n e f = ap f (eqb-true v n e)

pub or-by : {Q : Type 0} (a b : Bool) → a || b ≡ true → (a ≡ true → Q) → (b ≡ true → Q) → Q
or-by true b h f g = f refl
or-by false b h f g = g h
