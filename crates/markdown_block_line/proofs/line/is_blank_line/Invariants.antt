use Rattle.std.proofs.Common.{◌≡◌, drop}
use Rattle.std.specs.List.{list_all}
use Rattle.markdown_block_line.specs.LineValues.{is_whitespace_value}
use Rattle.markdown_block_line.proofs.line.is_blank_line.Given as goal

abbrev pub invariant-loop-value : goal.invariant-loop-value
invariant-loop-value l = list_all is_whitespace_value l.line ≡ list_all is_whitespace_value (drop l.value-index l.line)
