use Rattle.std.proofs.Common.{◌≤◌, ◌<◌, ◌-◌, length}
use Rattle.markdown_test_parts.proofs.emphasis.leaf_end.Given as goal

-- the leaf goes on at least to here
abbrev pub invariant-loop-end : goal.invariant-loop-end
invariant-loop-end l = record { forward : l.fn.from < l.end; within : l.end ≤ length l.bytes }

abbrev pub decreases-loop-end : goal.decreases-loop-end
decreases-loop-end l = length l.bytes - l.end
