use Rattle.std.proofs.Common.{◌∙◌, ap, sym, arith}
use Rattle.markdown_content.specs.declared.parser.Piece.{Piece}
use Rattle.markdown_content.specs.Place.{code_at, moved}
use Rattle.markdown_content.proofs.CursorSteps.{moved_is}
use Rattle.markdown_content.proofs.NextPlace.{point_fits}
use Rattle.markdown_content.proofs.PlainByteLemmas.{plain_next, plain_code}
use Rattle.markdown_content.proofs.cursor.Cursor.next.Goals as goal

pub overflow_add-here : goal.overflow_add-here
overflow_add-here c = grind (arith, point_fits)

pub returns-then-self-here-gt13-2 : goal.returns-then-self-here-gt13-2
returns-then-self-here-gt13-2 c =
    let d : Piece = record { start = (0, 0); end = (0, 0) } in
    sym (plain_code (plain_next c.self.invariant.0 d c.if-self.true c.if-here-self.true c.if-self-here-gt13.true) d c.if-self.true c.if-here-self.true c.if-self-here-gt13-2.true)
    ∙ ap code_at (sym (moved_is c.self.inside.bytes.now c.self.inside.pieces.now c.self.inside.passed) ∙ ap moved c.self.view_is)
