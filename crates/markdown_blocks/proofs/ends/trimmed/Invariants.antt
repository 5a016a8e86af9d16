use Rattle.markdown_blocks.specs.TextTrims.{IsPassed}
use Rattle.markdown_blocks.proofs.ends.trimmed.Given as goal

abbrev pub invariant-loop-index : goal.invariant-loop-index
invariant-loop-index l = IsPassed l.document l.piece.start l.piece.end l.index

abbrev pub decreases-loop-index : goal.decreases-loop-index
decreases-loop-index l = l.index
