use Rattle.std.proofs.Common.{◌≡◌, ℕ, ◌<◌, ◌≤◌, ◌⊎◌, length, get_or}
use Rattle.markdown_attention.specs.OpenRuns.{IsCut}
use Rattle.markdown_attention.proofs.attention.pairing.cut_for_pair.Given as goal

abbrev pub invariant-loop-i : goal.invariant-loop-i
invariant-loop-i l = record {
  same : length l.heads ≡ length l.fn.heads;
  cut : (i : ℕ) → l.fn.first ≤ i → i < l.i →
      IsCut l.older l.opener (get_or l.fn.heads i 0) (get_or l.heads i 0);
  others : (i : ℕ) → (i < l.fn.first) ⊎ (l.i ≤ i) → get_or l.heads i 0 ≡ get_or l.fn.heads i 0;
}
