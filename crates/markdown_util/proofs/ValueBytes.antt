-- Bytes that differ, and the `;` behind a value.
use Rattle.std.proofs.Common.{◌≡◌, ◌≢◌, refl, ℕ, Bool, true, false, cond, eqb, ◌⊎◌, inl, inr}
use Rattle.std.proofs.lemmas.Bool.Decides.{eqb_tells}
use Rattle.markdown_util.specs.Reference.{is_value_byte}

pub eqb_off : (a b : ℕ) → a ≢ b → eqb a b ≡ false
eqb_off a b h = go (eqb_tells a b)
  where
    go : ((eqb a b ≡ true) × (a ≡ b)) ⊎ ((eqb a b ≡ false) × (a ≢ b)) → eqb a b ≡ false
    go (inl p) = absurd (h p.1)
    go (inr p) = p.0

pub semicolon_stops : (marker : ℕ) → is_value_byte marker 59 ≡ false
semicolon_stops marker = go (eqb marker 38) (eqb marker 35)
  where
    go : (a b : Bool) → cond a false (cond b false false) ≡ false
    go true b = refl
    go false true = refl
    go false false = refl
