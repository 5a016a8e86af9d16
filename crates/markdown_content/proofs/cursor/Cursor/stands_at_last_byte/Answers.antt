use Rattle.std.proofs.Common.{◌∙◌, ap, sym, arith}
use Rattle.std.proofs.lemmas.Bool.{ltb-true}
use Rattle.markdown_content.specs.declared.parser.Piece.{Piece}
use Rattle.markdown_content.specs.Place.{Place, code_at, moved}
use Rattle.markdown_content.proofs.ContentLines.{text-last}
use Rattle.markdown_content.proofs.CursorSteps.{at_code, moved_is}
use Rattle.markdown_content.proofs.NextPlace.{point_fits}
use Rattle.markdown_content.proofs.PlainByteLemmas.{open-before-end, plain_code, plain_last}
use Rattle.markdown_content.proofs.cursor.Cursor.stands_at_last_byte.Goals as goal

pub returns : goal.returns
returns c =
    λ above.
    let d : Piece = record { start = (0, 0); end = (0, 0) } in
    text-last c.args.self.now _ (ap code_at (sym c.self.view_is) ∙ plain_code c.self.invariant.0 d (omega (arith, c.if-self.false)) (omega (arith, c.if-self-end.false)) (ltb-true 13 _ above)) (ltb-true 13 _ above)
    (ap (λ (p : Place). code_at (moved p)) (sym c.self.view_is) ∙ ap code_at (moved_is c.self.inside.bytes.now c.self.inside.pieces.now c.self.inside.passed) ∙ plain_last c.self.invariant.0 d (omega (arith, c.if-self.false, c.if-self-2.false)) (omega (arith, c.if-self-end.false)) (omega (arith, c.if-end-ne0.false)) (ltb-true 13 _ above))

pub overflow_add-self-inside : goal.overflow_add-self-inside
overflow_add-self-inside c = omega (arith, c.self.told)

pub overflow_add-self-inside-else-end-ne0 : goal.overflow_add-self-inside-else-end-ne0
overflow_add-self-inside-else-end-ne0 c = grind (arith, point_fits)

pub bounds-self-inside-self-inside-2 : goal.bounds-self-inside-self-inside-2
bounds-self-inside-self-inside-2 c = grind (arith, at_code, open-before-end)
