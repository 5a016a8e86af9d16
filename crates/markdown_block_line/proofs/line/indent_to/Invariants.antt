use Rattle.std.proofs.Common.{◌≤◌, ◌-◌}
use Rattle.markdown_block_line.specs.LineValues.{is_blank_value, front}
use Rattle.markdown_block_line.proofs.line.indent_to.Given as goal

abbrev pub invariant-loop-count : goal.invariant-loop-count
invariant-loop-count l = record { most : l.count ≤ l.most; passed : l.count ≤ front is_blank_value l.line }

abbrev pub decreases-loop-count : goal.decreases-loop-count
decreases-loop-count l = l.most - l.count
