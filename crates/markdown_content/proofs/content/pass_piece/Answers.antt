use Rattle.std.proofs.Common.{◌∙◌, sym}
use Rattle.markdown_content.proofs.PieceTests.{at_start, start-forward, piece-result}
use Rattle.markdown_content.proofs.content.pass_piece.Goals as goal

pub reach-requires-2-clause-is_point : goal.reach-requires-2-clause-is_point
reach-requires-2-clause-is_point c =
    (at_start c.args.bytes.now c.args.point c.args.piece.now c.in_ok-start.start c.in_ok-start.ensures).point

pub reach-requires-2-clause-forward : goal.reach-requires-2-clause-forward
reach-requires-2-clause-forward c =
    start-forward c.args.bytes.now c.args.piece.now c.in_ok-start.start.point (at_start c.args.bytes.now c.args.point c.args.piece.now c.in_ok-start.start c.in_ok-start.ensures) (sym c.is_before.ensures ∙ c.if-is_before.false)

pub returns : goal.returns
returns c = piece-result c.args.bytes.now c.args.piece.now c.args.point c.in_ok-start.start c.reach-2.result c.in_ok-start.ensures (sym c.is_before.ensures ∙ c.if-is_before.false) c.reach-2.ensures
