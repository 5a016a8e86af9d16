use Rattle.std.proofs.Common.{ℕ, arith, w64, inl, inr}
use Rattle.std.specs.Int.{trailing_zeros}
use Rattle.std.proofs.lemmas.Bool.{cases_lt}
use Rattle.std.proofs.lemmas.Nat.Bits.{bit_at-trailing_zeros, bit_at_above}
use Rattle.markdown_content.proofs.lanes.lowest.Goals as goal

pub returns : goal.returns
returns c =
    let m : ℕ = c.args.mask in
    let h = bit_at-trailing_zeros w64 m (omega (arith, c.requires.some)) c.ranges.mask.fits in
    let z : ℕ = trailing_zeros w64 m in
    record {
      within = elim (cases_lt z 16) [
        | inl k ↦ k
        | inr k ↦ absurd (omega (arith, h.1, bit_at_above m 16 z c.requires.few k))
      ];
      below = h.2;
      set = h.1;
    }
