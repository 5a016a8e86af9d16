-- The class of a closer decides what refuses it.
use Rattle.std.proofs.Common.{◌≡◌, ℕ, ◌+◌, ◌%◌, ◌<◌, Bool, true, false, cond, eqb, refl, inl, inr, arith}
use Rattle.std.proofs.lemmas.Bool.{cases_eq, cases_Bool, eq-eqb, ne_eqb, and_right}
use Rattle.markdown_attention.specs.declared.attention.runs.Sequence.{Sequence}
use Rattle.markdown_content.specs.declared.configuration.ParseOptions.{ParseOptions}
use Rattle.markdown_attention.specs.NumberedPairs.{sizes_fit, is_tilde_pair}
use Rattle.markdown_attention.specs.OpenRuns.{class_of}

mod_same : (x y y' : ℕ) → y % 3 ≡ y' % 3 → (x + y) % 3 ≡ (x + y') % 3
mod_same x y y' e = omega arith

-- the class of other markers, apart
split_class : (m m' : ℕ) (a b : Bool) → m < 3 → m' < 3 → m + cond a 3 0 ≡ m' + cond b 3 0 → (m ≡ m') × (a ≡ b)
split_class m m' true true l l' e = (omega arith, refl)
split_class m m' true false l l' e = absurd (omega arith)
split_class m m' false true l l' e = absurd (omega arith)
split_class m m' false false l l' e = (omega arith, refl)

-- the class of a tilde
abbrev tilde_class : ℕ → ℕ
tilde_class y = cond (eqb y 1) 1 (cond (eqb y 2) 2 0)

tilde_other : (y : ℕ) → (y ≡ 1 → ⊥) → (y ≡ 2 → ⊥) → tilde_class y ≡ 0
tilde_other y a b = rw (ne_eqb y 1 a, ne_eqb y 2 b) refl

tilde_none : (options : ParseOptions) (x y : ℕ) → (y ≡ 1 → ⊥) → (y ≡ 2 → ⊥) → is_tilde_pair options x y ≡ false
tilde_none options x y a b = rw (ne_eqb y 1 a, ne_eqb y 2 b) (and_right (eqb x y) false refl)

tilde_same : (options : ParseOptions) (x y y' : ℕ) → tilde_class y ≡ tilde_class y' →
    is_tilde_pair options x y ≡ is_tilde_pair options x y'
tilde_same options x y y' e = grind (arith, cases_eq, tilde_other, tilde_none)

pub class_decides : (options : ParseOptions) (a b b' : Sequence) (x y y' : ℕ) → b.marker ≡ b'.marker
    → class_of options b y ≡ class_of options b' y' → sizes_fit options a b x y ≡ sizes_fit options a b' x y'
unfolding class_of sizes_fit
class_decides options a b b' x y y' m e =
    elim (cases_eq b.marker 126) [
      | inl tilde ↦ grind (arith, eq-eqb, tilde_same)
      | inr other ↦ grind (arith, ne_eqb, split_class, mod_same)
    ]

pub class_small : (options : ParseOptions) (b : Sequence) (y : ℕ) → class_of options b y < 6
unfolding class_of
class_small options b y = grind (arith, cases_Bool)
