use Rattle.std.proofs.Common.{arith}
use Rattle.markdown_content.specs.Place.{moved}
use Rattle.markdown_run_text.proofs.InnerPassed.{goes-from, held-is, inner-some, inner-end, inner-on, inner-over}
use Rattle.markdown_run_text.proofs.readers.partial_data.pass_inner.Goals as goal

pub returns-then-not-stops_at_inner-clause-past : goal.returns-then-not-stops_at_inner-clause-past
returns-then-not-stops_at_inner-clause-past c = grind (arith, inner-end c.args.literals (moved c.args.cursor.now), held-is, inner-on c.args.literals (moved c.args.cursor.now), c.pass_line-first.ensures.past, c.pass_line-first.ensures.on, c.stops_at_inner.ensures, c.if-not-stops_at_inner.true)

pub returns-then-not-stops_at_inner-clause-on : goal.returns-then-not-stops_at_inner-clause-on
returns-then-not-stops_at_inner-clause-on c = grind (arith, goes-from, held-is, c.pass_line-first.ensures.on, c.stops_at_inner.ensures, c.if-not-stops_at_inner.true)

pub pass_more_inner-requires : goal.pass_more_inner-requires
pass_more_inner-requires c = grind (arith, inner-some, held-is, c.pass_line-first.ensures.on, c.stops_at_inner.ensures, c.if-not-stops_at_inner.false)

pub returns-clause-past : goal.returns-clause-past
returns-clause-past c = grind (arith, inner-over, held-is, inner-on, c.pass_more_inner.ensures.past, c.pass_line-first.ensures.on, c.stops_at_inner.ensures, c.if-not-stops_at_inner.false, c.pass_line-first.ensures.past)
