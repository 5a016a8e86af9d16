-- What is known of a value that is none of some.
use Rattle.std.proofs.Common.{◌≡◌, refl, ℕ, zero, suc, ◌+◌, ◌<◌, ◌≤◌, ◌==◌, Bool, true, false, ◌&&◌, nat_le, arith}
use Rattle.std.specs.List.{list_any}
use Rattle.std.proofs.lemmas.Bool.{eqb-false, leb-true, or_parts}
use Rattle.markdown_model.specs.CodeTests.{is_between}
use Rattle.markdown_plan.specs.ByteTests.{controls, numbers}

-- a value that is none of some numbers does not lie among them
not-among : (v first n : ℕ) → list_any (λ k. v == k) (numbers first n) ≡ false → first ≤ v → v < first + n → ⊥
not-among v first zero h low high = omega (arith, low, high)
not-among v first (suc n) h low high =
    let parts = or_parts (v == first) _ h in
    let other : v ≡ first → ⊥ = eqb-false v first parts.0 in
    not-among v (first + 1) n parts.1 (omega (arith, low, other)) (omega (arith, high))

between-by : (v : ℕ) → list_any (λ k. v == k) (numbers 1 31) ≡ false → (low high : Bool) → nat_le 1 v ≡ low →
    nat_le v 31 ≡ high → low && high ≡ false
between-by v h false high l u = refl
between-by v h true false l u = refl
between-by v h true true l u =
    absurd (not-among v 1 31 h (leb-true 1 v l) (let k : v ≤ 31 = leb-true v 31 u in omega (arith, k)))

-- no control, by the list of them
pub no-control : (v : ℕ) → list_any (λ k. v == k) controls ≡ false → (is_between 1 31 v ≡ false) × (v == 127 ≡ false)
no-control v h =
    let parts = or_parts (v == 127) _ h in
    (between-by v parts.1 _ _ refl refl, parts.0)
