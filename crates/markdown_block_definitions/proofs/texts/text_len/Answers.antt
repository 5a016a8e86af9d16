use Rattle.std.proofs.Common.{◌∙◌, refl}
use Rattle.markdown_block_definitions.proofs.TextWalks.{text-passes, text-ends, text-closes, text-fails, text-over}
use Rattle.markdown_block_definitions.proofs.texts.text_len.Goals as goal

pub loop-len-init : goal.loop-len-init
loop-len-init c = record { read = λ cs h. refl }

pub loop-len-preserved : goal.loop-len-preserved
loop-len-preserved c = record { read = λ cs h. c.loop-len.invariant.read cs h ∙ text-passes c.args.text c.loop-len.slash cs c.args.values.now c.loop-len.len _ h c.in-Passes.escapes c.loop-len-test.true c.in-Passes.ensures }

pub returns-in-Ends-clause-read : goal.returns-in-Ends-clause-read
returns-in-Ends-clause-read c = λ cs h. c.loop-len.invariant.read cs h ∙ text-ends c.args.text c.loop-len.slash cs c.args.values.now c.loop-len.len _ h c.loop-len-test.true c.in-Ends.ensures

pub returns-in-Ends-clause-closed : goal.returns-in-Ends-clause-closed
returns-in-Ends-clause-closed c = λ cs h. text-closes c.args.text c.loop-len.slash cs c.args.values.now c.loop-len.len _ h c.loop-len-test.true c.in-Ends.ensures

pub returns-in-Fails-clause-read : goal.returns-in-Fails-clause-read
returns-in-Fails-clause-read c = λ cs h. c.loop-len.invariant.read cs h ∙ text-fails c.args.text c.loop-len.slash cs c.args.values.now c.loop-len.len _ h c.loop-len-test.true c.in-Fails.ensures

pub returns-clause-read : goal.returns-clause-read
returns-clause-read c = λ cs h. c.loop-len.invariant.read cs h ∙ text-over c.args.text c.loop-len.slash cs c.args.values.now c.loop-len.len 0 h c.loop-len-test.false
