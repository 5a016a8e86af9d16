use Rattle.std.proofs.Common.{ℕ, ◌≤◌}
use Rattle.markdown_attention.specs.OpenRuns.{CutFrom}
use Rattle.markdown_attention.proofs.attention.pairing.cut.Given as goal

abbrev pub invariant-loop-run : goal.invariant-loop-run
invariant-loop-run l = record {
  within : l.at ≤ l.fn.head;
  cut : (n : ℕ) × CutFrom l.older l.opener l.fn.head n l.at;
}

abbrev pub decreases-loop-run : goal.decreases-loop-run
decreases-loop-run l = l.at
