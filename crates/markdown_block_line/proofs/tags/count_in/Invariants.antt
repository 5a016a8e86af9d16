use Rattle.std.proofs.Common.{◌≤◌, ◌-◌, length}
use Rattle.markdown_block_line.specs.LineValues.{front}
use Rattle.markdown_block_line.specs.LineTags.{in_class}
use Rattle.markdown_block_line.proofs.tags.count_in.Given as goal

abbrev pub invariant-loop-count : goal.invariant-loop-count
invariant-loop-count l = record { passed : l.count ≤ front (in_class l.class) l.line }

abbrev pub decreases-loop-count : goal.decreases-loop-count
decreases-loop-count l = length l.line - l.count
