use Rattle.std.proofs.Common.{sym, ◌∙◌, arith}
use Rattle.markdown_run_text.proofs.PassedData.{line-goes, line-stops}
use Rattle.markdown_run_text.proofs.readers.partial_data.pass_codes.Goals as goal

pub returns-then-pass_sign-clause-past : goal.returns-then-pass_sign-clause-past
returns-then-pass_sign-clause-past c = grind (arith, line-goes c.loop-cursor.cursor, c.goes_in_line.ensures, c.loop-cursor-test.true, c.pass_sign.ensures.past, c.if-pass_sign.true, c.loop-cursor.invariant.0)

pub returns-then-pass_sign-clause-on : goal.returns-then-pass_sign-clause-on
returns-then-pass_sign-clause-on c _ = grind (arith, line-goes c.loop-cursor.cursor, c.goes_in_line.ensures, c.loop-cursor-test.true, c.pass_sign.ensures.past, c.if-pass_sign.true, c.loop-cursor.invariant.1)

pub consume-requires : goal.consume-requires
consume-requires c = grind (arith, line-goes, c.goes_in_line.ensures, c.loop-cursor-test.true, c.pass_sign.ensures.stays, c.if-pass_sign.false)

pub loop-cursor-smaller : goal.loop-cursor-smaller
loop-cursor-smaller c = grind (arith, line-goes c.loop-cursor.cursor, c.goes_in_line.ensures, c.loop-cursor-test.true, c.consume.ensures, c.pass_sign.ensures.stays, c.if-pass_sign.false)

pub loop-cursor-preserved : goal.loop-cursor-preserved
loop-cursor-preserved c = grind (arith, line-goes c.loop-cursor.cursor, c.goes_in_line.ensures, c.loop-cursor-test.true, c.consume.ensures, c.pass_sign.ensures.stays, c.if-pass_sign.false, c.loop-cursor.invariant.0, c.loop-cursor.invariant.1)

pub returns-clause-stops : goal.returns-clause-stops
returns-clause-stops c _ = line-stops c.loop-cursor.cursor (sym c.goes_in_line.ensures ∙ c.loop-cursor-test.false)
