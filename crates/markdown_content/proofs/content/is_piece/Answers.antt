use Rattle.std.proofs.Common.{◌∙◌, sym}
use Rattle.markdown_content.proofs.PieceTests.{at_start, start-forward}
use Rattle.markdown_content.proofs.content.is_piece.Goals as goal

pub is_place-requires-clause-is_point : goal.is_place-requires-clause-is_point
is_place-requires-clause-is_point c =
    (at_start c.args.bytes.now c.args.point c.args.piece.now c.in-Some.start c.in-Some.ensures).point

pub is_place-requires-clause-forward : goal.is_place-requires-clause-forward
is_place-requires-clause-forward c =
    start-forward c.args.bytes.now c.args.piece.now c.in-Some.start.point (at_start c.args.bytes.now c.args.point c.args.piece.now c.in-Some.start c.in-Some.ensures) (sym c.is_before.ensures ∙ c.if-not-is_before.true)
