use Rattle.std.proofs.Common.{refl, arith}
use Rattle.markdown_content.specs.Place.{moved}
use Rattle.markdown_run_text.proofs.InnerPassed.{goes-from, held-is, inner-some, inner-end, inner-less, inner-on, inner-over}
use Rattle.markdown_run_text.proofs.readers.partial_data.pass_more_inner.Goals as goal

pub loop-literals-init : goal.loop-literals-init
loop-literals-init c = (refl, c.requires)

pub pass_line-on-requires : goal.pass_line-on-requires
pass_line-on-requires c = c.loop-literals.invariant.1

pub loop-literals-smaller : goal.loop-literals-smaller
loop-literals-smaller c = grind (arith, inner-less, c.loop-literals.invariant.1, c.pass_line-on.ensures.past)

pub loop-literals-preserved : goal.loop-literals-preserved
loop-literals-preserved c = grind (arith, held-is, inner-over, inner-on, inner-some, c.pass_line-on.ensures.on, c.stops_at_inner.ensures, c.if-not-stops_at_inner.false, c.pass_line-on.ensures.past, c.loop-literals.invariant.0)

pub returns-then-not-stops_at_inner-clause-past : goal.returns-then-not-stops_at_inner-clause-past
returns-then-not-stops_at_inner-clause-past c = grind (arith, inner-end c.args.literals (moved c.loop-literals.cursor), held-is, inner-on c.args.literals (moved c.loop-literals.cursor), c.pass_line-on.ensures.past, c.pass_line-on.ensures.on, c.stops_at_inner.ensures, c.if-not-stops_at_inner.true, c.loop-literals.invariant.0)

pub returns-then-not-stops_at_inner-clause-on : goal.returns-then-not-stops_at_inner-clause-on
returns-then-not-stops_at_inner-clause-on c = grind (arith, goes-from, held-is, c.pass_line-on.ensures.on, c.stops_at_inner.ensures, c.if-not-stops_at_inner.true)
