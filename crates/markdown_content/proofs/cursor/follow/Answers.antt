use Rattle.std.proofs.Common.{◌∙◌, sym}
use Rattle.markdown_content.proofs.LaterPieces.{going, followed-last}
use Rattle.markdown_content.proofs.cursor.follow.Goals as goal

pub walk_to-requires-clause-is_place : goal.walk_to-requires-clause-is_place
walk_to-requires-clause-is_place c =
    (going c.args.bytes.now c.args.pieces.now c.args.piece c.args.point (record { start = (0, 0); end = (0, 0) }) c.if-piece-pieces.true c.requires.content.in_order (sym c.stands_before_end.ensures ∙ c.if-stands_before_end.false)).place

pub walk_to-requires-clause-forward : goal.walk_to-requires-clause-forward
walk_to-requires-clause-forward c =
    (going c.args.bytes.now c.args.pieces.now c.args.piece c.args.point (record { start = (0, 0); end = (0, 0) }) c.if-piece-pieces.true c.requires.content.in_order (sym c.stands_before_end.ensures ∙ c.if-stands_before_end.false)).forward

pub returns-then-piece-pieces : goal.returns-then-piece-pieces
returns-then-piece-pieces c =
    rw c.walk_to.ensures.point ((going c.args.bytes.now c.args.pieces.now c.args.piece c.args.point (record { start = (0, 0); end = (0, 0) }) c.if-piece-pieces.true c.requires.content.in_order (sym c.stands_before_end.ensures ∙ c.if-stands_before_end.false)).result)

pub returns-else-piece-pieces : goal.returns-else-piece-pieces
returns-else-piece-pieces c =
    followed-last c.args.bytes.now c.args.pieces.now c.args.piece c.args.point c.if-piece-pieces.false
