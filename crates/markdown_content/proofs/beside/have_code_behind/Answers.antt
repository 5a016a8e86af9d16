use Rattle.std.proofs.Common.{◌∙◌, sym}
use Rattle.markdown_content.specs.declared.parser.Piece.{Piece}
use Rattle.markdown_content.proofs.CodesBeside.{behind-in, behind-out, not-past}
use Rattle.markdown_content.proofs.beside.have_code_behind.Goals as goal

abbrev nowhere : Piece
nowhere = record { start = (0, 0); end = (0, 0) }

pub returns-then-piece-pieces : goal.returns-then-piece-pieces
returns-then-piece-pieces c =
    not-past _ c.args.index ∙ sym (behind-in c.args.bytes.now c.args.pieces.now c.ending_by-piece.result nowhere c.args.index c.requires c.ending_by-piece.ensures c.if-piece-pieces.true)

pub returns-else-piece-pieces : goal.returns-else-piece-pieces
returns-else-piece-pieces c =
    behind-out c.args.bytes.now c.args.pieces.now c.ending_by-piece.result nowhere c.args.index c.requires c.ending_by-piece.ensures c.if-piece-pieces.false
