use Rattle.std.proofs.Common.{◌<◌, ◌∙◌, ap, sym, arith, get_or}
use Rattle.markdown_content.specs.declared.parser.Piece.{Piece}
use Rattle.markdown_content.specs.Place.{code_at, moved}
use Rattle.markdown_content.proofs.CursorSteps.{at_code, moved_is}
use Rattle.markdown_content.proofs.NextPlace.{point_fits}
use Rattle.markdown_content.proofs.PlainByteLemmas.{open-before-end, feed_next, feed_code}
use Rattle.markdown_content.proofs.cursor.Cursor.pass_line_feed.Goals as goal

pub overflow_add-at : goal.overflow_add-at
overflow_add-at c = grind (arith, point_fits)

pub overflow_add-point : goal.overflow_add-point
overflow_add-point c = grind (arith, point_fits)

pub overflow_add-self : goal.overflow_add-self
overflow_add-self c =
    let d : Piece = record { start = (0, 0); end = (0, 0) } in
    let here : c.self.inside.point.index < (get_or c.self.inside.pieces.now c.self.inside.piece d).end.0 = omega (arith, c.if-at-self.true) in
    omega (arith, (at_code c.self.invariant.0 (open-before-end c.self.inside.pieces.now c.self.inside.piece c.self.inside.point d c.if-self.true here)).count)

pub invariant_of-self : goal.invariant_of-self
invariant_of-self c =
    (feed_next c.self.invariant.0 (record { start = (0, 0); end = (0, 0) }) c.if-self.true c.if-at-self.true c.if-self-at-eq10.true, c.self.invariant.1)

pub returns-then-self-at-eq10-clause-passed : goal.returns-then-self-at-eq10-clause-passed
returns-then-self-at-eq10-clause-passed c =
    λ _.
    let d : Piece = record { start = (0, 0); end = (0, 0) } in
    (ap code_at (sym c.self.view_is) ∙ feed_code c.self.invariant.0 d c.if-self.true (omega (arith, c.if-at-self.true)) c.if-self-at-eq10.true, sym (ap moved (sym c.self.view_is) ∙ moved_is c.self.inside.bytes.now c.self.inside.pieces.now c.self.inside.passed))
