use Rattle.markdown_content.proofs.WalkSteps.{codes_left_at}
use Rattle.markdown_block_line.proofs.LinesOfDocument.{IsLinePart}
use Rattle.markdown_block_line.proofs.document.fill_line.Given as goal

abbrev pub invariant-loop-point : goal.invariant-loop-point
invariant-loop-point l = IsLinePart l.bytes l.fn.start l.point l.buffer.items

abbrev pub decreases-loop-point : goal.decreases-loop-point
decreases-loop-point l = codes_left_at l.bytes l.point
