use Rattle.std.proofs.Common.{drop}
use Rattle.markdown_content.proofs.PieceTests.{ArePiecesLeft}
use Rattle.markdown_content.proofs.content.are_pieces_from.Given as goal

abbrev pub invariant-loop-piece : goal.invariant-loop-piece
invariant-loop-piece l = ArePiecesLeft l.bytes l.pieces (drop l.piece-index l.rest) l.last
