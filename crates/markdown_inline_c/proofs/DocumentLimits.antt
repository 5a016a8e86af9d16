-- A limit, if there is one.
use Rattle.std.proofs.Common.{◌≡◌, refl, ℕ, ◌<◌, ◌≤◌, nat_le, Bool, true, false, Option, None, Some, arith}
use Rattle.std.proofs.lemmas.Bool.Decides.{nat_tests}
use Rattle.markdown_page.specs.DocumentBrought.{IsBeyond}
use Rattle.markdown_inline_c.specs.FlatHtml.{IsWithinLimit}

no-more : (limit n : ℕ) → (limit < n → ⊥) → n ≤ limit
no-more limit n h = by-test (nat_le n limit) refl
  where
    by-test : (x : Bool) → nat_le n limit ≡ x → n ≤ limit
    by-test true e = grind (arith, nat_tests, e)
    by-test false e = absurd (h (grind (arith, nat_tests, e)))

pub within_limit : (limit : Option ℕ) (n : ℕ) → (IsBeyond limit n → ⊥) → IsWithinLimit limit n
within_limit None n h = tt
within_limit (Some l) n h = no-more l n h

pub beyond_limit : (limit : Option ℕ) (n : ℕ) → IsBeyond limit n → IsWithinLimit limit n → ⊥
beyond_limit None n h within = h
beyond_limit (Some l) n h within = omega (arith, h, within)
