use Rattle.std.proofs.Common.{◌≡◌, ◌+◌, ◌≤◌, List, length, drop}
use Rattle.markdown_content.specs.Codes.{Code}
use Rattle.markdown_model.specs.CodeTests.{values_of}
use Rattle.markdown_block_model.specs.LineRests.{lines_of}
use Rattle.markdown_block_definitions.proofs.front.count_lines.Given as goal

abbrev pub invariant-loop-index : goal.invariant-loop-index
invariant-loop-index l = record { few : l.lines + l.index ≤ length l.values; counts : (cs : List Code) → values_of cs ≡ l.values → length (lines_of (drop l.index cs)) ≡ l.lines }

abbrev pub decreases-loop-index : goal.decreases-loop-index
decreases-loop-index l = l.index
