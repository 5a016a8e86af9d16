use Rattle.std.proofs.Common.{arith}
use Rattle.markdown_run_text.proofs.PassedData.{line-goes-on, line-passed, sign-passed}
use Rattle.markdown_run_text.proofs.readers.partial_data.pass_line.Goals as goal

pub returns-then-not-is_at_any_sign-clause-past : goal.returns-then-not-is_at_any_sign-clause-past
returns-then-not-is_at_any_sign-clause-past c = grind (arith, line-passed, c.in-Some.ensures.past, c.stops_of.ensures, c.is_at_any_sign.ensures, c.if-not-is_at_any_sign.true)

pub returns-then-not-is_at_any_sign-clause-on : goal.returns-then-not-is_at_any_sign-clause-on
returns-then-not-is_at_any_sign-clause-on c = grind (arith, line-goes-on, c.in-Some.ensures.past, c.stops_of.ensures, c.is_at_ending.ensures, c.is_at_any_sign.ensures, c.if-not-is_at_any_sign.true)

pub returns-clause-past : goal.returns-clause-past
returns-clause-past c = grind (arith, sign-passed, c.in-Some.ensures.past, c.stops_of.ensures, c.pass_any_line-2.ensures.past, c.if-not-literals.false, c.is_at_any_sign.ensures, c.if-not-is_at_any_sign.false, c.is_at_plain_dot.ensures, c.if-not-is_at_plain_dot.false)
