use Rattle.std.proofs.Common.{◌≡◌, ◌≤◌, ◌-◌, length, List}
use Rattle.markdown_content.specs.Codes.{Code}
use Rattle.markdown_model.specs.CodeTests.{values_of}
use Rattle.markdown_block_line.specs.LineTags.{spaced_attribute}
use Rattle.markdown_block_line.proofs.TagReadings.{Repeats}
use Rattle.markdown_block_line.proofs.tags.attributes_len.Given as goal

abbrev pub invariant-loop-more : goal.invariant-loop-more
invariant-loop-more l = record { within : l.len ≤ length l.line; read : (cs : List Code) → values_of cs ≡ l.line → Repeats spaced_attribute cs l.len }

abbrev pub decreases-loop-more : goal.decreases-loop-more
decreases-loop-more l = length l.line - l.len
