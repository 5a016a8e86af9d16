use Rattle.std.proofs.Common.{◌≡◌, ◌≤◌, length, take}
use Rattle.markdown_block_line.specs.LineValues.{is_row_value, len_without_end}
use Rattle.markdown_block_line.proofs.line.len_before.Given as goal

abbrev pub invariant-loop-len : goal.invariant-loop-len
invariant-loop-len l = record { within : l.len ≤ length l.line; same : len_without_end (is_row_value l.value) (take l.len l.line) ≡ len_without_end (is_row_value l.value) l.line }

abbrev pub decreases-loop-len : goal.decreases-loop-len
decreases-loop-len l = l.len
