use Rattle.std.proofs.Common.{arith}
use Rattle.std.proofs.lemmas.Bool.{leb-true, le-ltb, both_ways}
use Rattle.markdown_content.specs.declared.parser.Piece.{Piece}
use Rattle.markdown_content.proofs.BytesOfContent.{whole-found}
use Rattle.markdown_content.proofs.part.is_in_one_piece.Goals as goal

abbrev nowhere : Piece
nowhere = record { start = (0, 0); end = (0, 0) }

pub returns-then-pieces-piece : goal.returns-then-pieces-piece
returns-then-pieces-piece c high text = grind (arith, whole-found, leb-true, both_ways, le-ltb)
