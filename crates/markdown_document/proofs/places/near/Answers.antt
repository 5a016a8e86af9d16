use Rattle.std.proofs.Common.{◌<◌, ◌≤◌, length, arith, sym, subst}
use Rattle.markdown_event.specs.declared.event.Point.{Point}
use Rattle.markdown_content.specs.DocumentWalk.{IsPoint}
use Rattle.markdown_content.proofs.WalkSteps.{codes_left_at}
use Rattle.markdown_content.proofs.WalkTargets.{reaching-less}
use Rattle.markdown_document.proofs.places.near.Goals as goal
use Rattle.markdown_document.proofs.places.near.Goals.{then-point-eq0, else-point-eq0}

pub loop-point-smaller : goal.loop-point-smaller
loop-point-smaller c =
    let bytes = c.args.bytes.now in
    let q : Point = c.if-point-eq0.point in
    let here : IsPoint bytes q =
    elim c.if-point-eq0.branch [
      | then-point-eq0 w ↦ subst (λ (x : Point). IsPoint bytes x) (sym w.point-is) w.pass_bytes-point.ensures.is_point
      | else-point-eq0 w ↦ subst (λ (x : Point). IsPoint bytes x) (sym w.point-is) c.loop-point.invariant.0
    ] in
    let same : codes_left_at bytes q ≤ codes_left_at bytes c.loop-point.point =
    elim c.if-point-eq0.branch [
      | then-point-eq0 w ↦ subst (λ (x : Point). codes_left_at bytes x ≤ codes_left_at bytes c.loop-point.point) (sym w.point-is) (omega (arith, w.pass_bytes-point.ensures.from, w.pass_bytes-point.ensures.at_byte))
      | else-point-eq0 w ↦ subst (λ (x : Point). codes_left_at bytes x ≤ codes_left_at bytes c.loop-point.point) (sym w.point-is) (omega arith)
    ] in
    let lt : q.index < length bytes = omega (arith, c.if-point-to.false, c.min-to.ensures) in
    let less : codes_left_at bytes c.past_code-next.result < codes_left_at bytes q = reaching-less bytes q c.past_code-next.result here lt c.past_code-next.ensures.next in
    omega (arith, same, less)
