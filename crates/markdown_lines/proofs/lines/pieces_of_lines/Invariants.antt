use Rattle.markdown_lines.proofs.PiecesInTurn.{AreMade}
use Rattle.markdown_lines.proofs.lines.pieces_of_lines.Given as goal

abbrev pub invariant-loop-number : goal.invariant-loop-number
invariant-loop-number l = AreMade l.bytes l.starts l.number l.pieces.items
