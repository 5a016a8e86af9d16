use Rattle.std.proofs.Common.{◌≡◌, ◌≤◌, length, drop}
use Rattle.markdown_block_line.specs.LineValues.{count_value}
use Rattle.markdown_block_line.proofs.breaks.third_last.Given as goal

abbrev pub invariant-loop-at : goal.invariant-loop-at
invariant-loop-at l = record { within : l.at ≤ length l.line; few : l.count ≤ 2; count : count_value l.value (drop l.at l.line) ≡ l.count }

abbrev pub decreases-loop-at : goal.decreases-loop-at
decreases-loop-at l = l.at
