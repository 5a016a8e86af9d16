use Rattle.std.proofs.Common.{◌≤◌, length}
use Rattle.markdown_block_definitions.proofs.copy.line_start.Given as goal

abbrev pub invariant-loop-start : goal.invariant-loop-start
invariant-loop-start l = record { within : l.start ≤ length l.bytes; before : l.start ≤ l.index }

abbrev pub decreases-loop-start : goal.decreases-loop-start
decreases-loop-start l = l.start
