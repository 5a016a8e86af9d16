use Rattle.std.proofs.Common.{◌≡◌, ◌<◌, ◌≤◌, ◌∙◌, ◌==◌, ◌||◌, sym, refl, arith, ℕ}
use Rattle.std.proofs.lemmas.Bool.{both_ways}
use Rattle.markdown_event.specs.declared.event.Point.{Point}
use Rattle.markdown_content.proofs.PlaceOrder.{is_before}
use Rattle.markdown_content.proofs.WalkTargets.{IsReaching, reaching-start, reaching-next, reaching-less, reaching-past, left-past, reaching-end, reaching-none, both-tests, not-both}
use Rattle.markdown_content.proofs.WalkSteps.{codes_left_at}
use Rattle.markdown_content.specs.declared.content.Stretch.{Stretch}
use Rattle.markdown_content.proofs.content.walk_on.Goals as goal

pub loop-stretch-init : goal.loop-stretch-init
loop-stretch-init c = reaching-start c.args.bytes.now c.args.point c.args.place c.requires.is_point c.requires.forward

pub loop-stretch-smaller : goal.loop-stretch-smaller
loop-stretch-smaller c =
    let n : ℕ = c.code_from-ends_line.result in
    let next : Stretch = record { point = c.past_code.result; has_line_ending = c.loop-stretch.stretch.has_line_ending || (n == 10); ends_line = n == 10 } in
    let less : codes_left_at c.args.bytes.now c.past_code.result < codes_left_at c.args.bytes.now c.loop-stretch.stretch.point =
    reaching-less c.args.bytes.now c.loop-stretch.stretch.point c.past_code.result c.loop-stretch.invariant.point c.loop-stretch-test.true c.past_code.ensures.next in
    let more : codes_left_at c.args.bytes.now c.pass_ordinary-stretch.result.point ≤ codes_left_at c.args.bytes.now c.past_code.result =
    left-past c.args.bytes.now next c.pass_ordinary-stretch.result c.past_code.ensures.is_point c.pass_ordinary-stretch.ensures.longer in
    omega (arith, less, more)

pub loop-stretch-preserved : goal.loop-stretch-preserved
loop-stretch-preserved c =
    let n : ℕ = c.code_from-ends_line.result in
    let next : Stretch = record { point = c.past_code.result; has_line_ending = c.loop-stretch.stretch.has_line_ending || (n == 10); ends_line = n == 10 } in
    let one : IsReaching c.args.bytes.now c.args.point c.args.place next =
    reaching-next c.args.bytes.now c.args.point c.args.place c.loop-stretch.stretch c.past_code.result n (n == 10) (c.loop-stretch.stretch.has_line_ending || (n == 10)) c.loop-stretch.invariant c.loop-stretch-test.true (sym c.is_before.ensures ∙ c.if-is_before.true) c.code_from-ends_line.ensures refl c.past_code.ensures.next refl in
    reaching-past c.args.bytes.now c.args.point c.args.place next c.pass_ordinary-stretch.result one c.pass_ordinary-stretch.ensures.longer c.pass_ordinary-stretch.ensures.forward c.pass_ordinary-stretch.ensures.within c.pass_ordinary-stretch.ensures.plain

pub returns-then-eq : goal.returns-then-eq
returns-then-eq c =
    let p : Point = c.loop-stretch.stretch.point in
    let same : (p.index ≡ c.args.place.0) × (p.vs ≡ c.args.place.1) = both-tests p.index p.vs c.args.place.0 c.args.place.1 c.eq.result c.eq.ensures c.if-eq.true in
    reaching-end c.args.bytes.now c.args.point c.args.place c.loop-stretch.stretch c.loop-stretch.invariant same.0 same.1

pub returns-else-eq : goal.returns-else-eq
returns-else-eq c = grind (arith, reaching-none, both_ways, not-both)
