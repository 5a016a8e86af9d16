use Rattle.std.proofs.Common.{◌∙◌, ap, sym, arith, ◌-◌, ℕ}
use Rattle.markdown_content.specs.Stretch.{past_stretch}
use Rattle.markdown_content.specs.declared.parser.Piece.{Piece}
use Rattle.markdown_content.proofs.NextPlace.{point_fits}
use Rattle.markdown_content.proofs.StretchLemmas.{plain_run}
use Rattle.markdown_content.proofs.cursor.Cursor.pass_plain.Goals as goal

pub overflow_add-next : goal.overflow_add-next
overflow_add-next c = grind (arith, point_fits)

pub overflow_add-self-2 : goal.overflow_add-self-2
overflow_add-self-2 c = grind (arith, point_fits)

pub invariant_of-self : goal.invariant_of-self
invariant_of-self c =
    let d : Piece = record { start = (0, 0); end = (0, 0) } in
    let m : ℕ = c.plain_end.result - c.self.inside.point.index in (
      (plain_run c.args.stops.now c.self.invariant.0 d (omega (arith, c.if-self.false)) m (omega (arith, c.if-count-eq0.false)) (omega (arith, c.plain_end.ensures.from, c.plain_end.ensures.to, c.min-end.ensures, c.if-end-start.false))
          (λ i a b. c.plain_end.ensures.plain i a (omega (arith, b, c.plain_end.ensures.from)))).cursor,
      c.self.invariant.1,
    )

pub returns-clause-past : goal.returns-clause-past
returns-clause-past c =
    let d : Piece = record { start = (0, 0); end = (0, 0) } in
    let m : ℕ = c.plain_end.result - c.self.inside.point.index in
    sym ((plain_run c.args.stops.now c.self.invariant.0 d (omega (arith, c.if-self.false)) m (omega (arith, c.if-count-eq0.false)) (omega (arith, c.plain_end.ensures.from, c.plain_end.ensures.to, c.min-end.ensures, c.if-end-start.false))
    (λ i a b. c.plain_end.ensures.plain i a (omega (arith, b, c.plain_end.ensures.from)))).past)
    ∙ ap (past_stretch c.args.stops.now) c.self.view_is
