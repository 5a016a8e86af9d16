use Rattle.std.proofs.Common.{◌≡◌, length}
use Rattle.markdown_block_line.specs.LineWords.{begins_in_any_case}
use Rattle.markdown_block_line.proofs.html.begins_with.Given as goal

abbrev pub invariant-loop-word : goal.invariant-loop-word
invariant-loop-word l = begins_in_any_case l.word l.line ≡ begins_in_any_case l.fn.word l.fn.line

abbrev pub decreases-loop-word : goal.decreases-loop-word
decreases-loop-word l = length l.word
