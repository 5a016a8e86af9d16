use Rattle.std.proofs.Common.{◌≡◌, ◌<◌, true, get_or, ◌∙◌, ap, sym, arith}
use Rattle.markdown_content.specs.PlainBytes.{is_plain}
use Rattle.markdown_content.specs.Stretch.{past_stretch}
use Rattle.markdown_content.specs.declared.parser.Piece.{Piece}
use Rattle.markdown_content.proofs.ByteSetLemmas.{plain-parts}
use Rattle.markdown_content.proofs.CursorSteps.{at_code}
use Rattle.markdown_content.proofs.NextPlace.{point_fits}
use Rattle.markdown_content.proofs.PlainByteLemmas.{open-before-end, past_last, plain_last}
use Rattle.markdown_content.proofs.StretchLemmas.{past-byte}
use Rattle.markdown_content.proofs.cursor.Cursor.pass_last.Goals as goal

pub overflow_add-past : goal.overflow_add-past
overflow_add-past c = grind (arith, point_fits)

pub overflow_add-self : goal.overflow_add-self
overflow_add-self c =
    let d : Piece = record { start = (0, 0); end = (0, 0) } in
    let here : c.self.inside.point.index < (get_or c.self.inside.pieces.now c.self.inside.piece d).end.0 = omega (arith, c.if-here-end.false) in
    omega (arith, (at_code c.self.invariant.0 (open-before-end c.self.inside.pieces.now c.self.inside.piece c.self.inside.point d (omega (arith, c.if-self.false)) here)).count)

pub invariant_of-self : goal.invariant_of-self
invariant_of-self c =
    let d : Piece = record { start = (0, 0); end = (0, 0) } in
    let plain : is_plain c.args.stops.now (get_or c.self.inside.bytes.now c.self.inside.point.index 0) ≡ true = sym c.is_plain.ensures ∙ c.if-not-is_plain.false in
    (past_last c.self.invariant.0 d (omega (arith, c.if-self.false, c.if-self-2.false)) (omega (arith, c.if-here-end.false)) (plain-parts c.args.stops.now _ plain).0, c.self.invariant.1)

pub returns-clause-past : goal.returns-clause-past
returns-clause-past c =
    λ _.
    let d : Piece = record { start = (0, 0); end = (0, 0) } in
    let plain : is_plain c.args.stops.now (get_or c.self.inside.bytes.now c.self.inside.point.index 0) ≡ true = sym c.is_plain.ensures ∙ c.if-not-is_plain.false in
    sym (past-byte c.args.stops.now c.self.invariant.0 d (omega (arith, c.if-self.false)) (omega (arith, c.if-here-end.false)) plain)
    ∙ ap (past_stretch c.args.stops.now) c.self.view_is

pub returns-clause-end : goal.returns-clause-end
returns-clause-end c =
    λ _.
    let d : Piece = record { start = (0, 0); end = (0, 0) } in
    let plain : is_plain c.args.stops.now (get_or c.self.inside.bytes.now c.self.inside.point.index 0) ≡ true = sym c.is_plain.ensures ∙ c.if-not-is_plain.false in
    plain_last c.self.invariant.0 d (omega (arith, c.if-self.false, c.if-self-2.false)) (omega (arith, c.if-here-end.false)) (omega (arith, c.if-end-ne0.false)) (plain-parts c.args.stops.now _ plain).0
