use Rattle.std.proofs.Common.{length, ◌-◌}
use Rattle.markdown_test_parts.specs.Fixtures.{HaveRuns}
use Rattle.markdown_test_parts.proofs.emphasis.push_leaves.Given as goal

-- the leaves so far
abbrev pub invariant-loop-from : goal.invariant-loop-from
invariant-loop-from l = HaveRuns l.bytes l.events

abbrev pub decreases-loop-from : goal.decreases-loop-from
decreases-loop-from l = length l.bytes - l.from
