-- What is left of the number, beyond the codes of the pieces so far.
use Rattle.markdown_content.proofs.CodeCounts.{IsCounting}
use Rattle.markdown_content.proofs.byte_counts.have_fewer.Given as goal

abbrev pub invariant-loop-piece : goal.invariant-loop-piece
invariant-loop-piece l = IsCounting l.bytes l.pieces l.byte l.times l.piece-index l.left
