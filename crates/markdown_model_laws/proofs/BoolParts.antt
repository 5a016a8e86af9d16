-- Tests and their parts, and the tests of one value.
use Rattle.std.proofs.Common.{◌≡◌, ◌==◌, ◌⊎◌, inl, inr, ℕ, ◌||◌, Bool, true, false, refl, ap, ◌∙◌}
use Rattle.std.proofs.lemmas.Bool.{eqb-true}
use Rattle.markdown_content.specs.Codes.{Code}
use Rattle.markdown_model.specs.CodeTests.{is_value}

pub or-parts : (a b : Bool) → a || b ≡ true → (a ≡ true) ⊎ (b ≡ true)
or-parts true b e = inl refl
or-parts false b e = inr e

pub or-last : (a : Bool) → a || false ≡ true → a ≡ true
or-last true e = refl
or-last false e = e

-- a code with one value has no other
pub other : (n m : ℕ) (c : Code) → (n == m) ≡ false → is_value n c ≡ true → is_value m c ≡ false
other n m c e h = ap (λ v. v == m) (eqb-true c.value n h) ∙ e
