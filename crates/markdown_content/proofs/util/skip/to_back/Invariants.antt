use Rattle.std.proofs.Common.{ℕ, ◌<◌, ◌≤◌}
use Rattle.markdown_content.specs.Nesting.{IsNamed}
use Rattle.markdown_content.proofs.util.skip.to_back.Given as goal

abbrev pub invariant-loop-at : goal.invariant-loop-at
invariant-loop-at l = record {
  back : l.at ≤ l.index;
  nearest : (j : ℕ) → l.at < j → j ≤ l.index → IsNamed l.names l.events j → ⊥;
}

abbrev pub decreases-loop-at : goal.decreases-loop-at
decreases-loop-at l = l.at
