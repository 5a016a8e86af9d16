use Rattle.std.proofs.Common.{◌∙◌, sym}
use Rattle.std.proofs.lemmas.Bool.{not-false}
use Rattle.markdown_content.proofs.PieceTests.{at_start, start-here, next-lines, next-result}
use Rattle.markdown_content.proofs.content.pass_next.Goals as goal

pub returns-then-gap : goal.returns-then-gap
returns-then-gap c =
    next-lines c.args.bytes.now c.args.before.ends_line c.args.before.point c.args.piece.now c.in_ok-gap.gap c.in_ok-gap.ensures c.if-gap.true

pub pass_piece-requires-clause-is_point : goal.pass_piece-requires-clause-is_point
pass_piece-requires-clause-is_point c =
    (at_start c.args.bytes.now c.args.before.point c.args.piece.now c.in_ok-gap.gap c.in_ok-gap.ensures).point

pub pass_piece-requires-clause-forward : goal.pass_piece-requires-clause-forward
pass_piece-requires-clause-forward c =
    start-here c.args.bytes.now c.args.piece.now c.in_ok-gap.gap.point (at_start c.args.bytes.now c.args.before.point c.args.piece.now c.in_ok-gap.gap c.in_ok-gap.ensures)

pub returns : goal.returns
returns c =
    next-result c.args.bytes.now c.args.before.ends_line c.args.before.point c.args.piece.now c.in_ok-gap.gap c.pass_piece.result (not-false c.args.before.ends_line c.if-not-before.false) (sym c.is_before.ensures ∙ c.if-is_before.false) c.in_ok-gap.ensures c.if-gap.false c.pass_piece.ensures
