use Rattle.std.proofs.Common.{◌∙◌, refl}
use Rattle.markdown_block_definitions.proofs.LineCounts.{line-goes, line-blank, line-over}
use Rattle.markdown_block_definitions.proofs.texts.has_no_blank_line.Goals as goal

pub loop-len-init : goal.loop-len-init
loop-len-init c = record { read = λ cs h. refl }

pub loop-len-preserved : goal.loop-len-preserved
loop-len-preserved c = record { read = λ cs h. c.loop-len.invariant.read cs h ∙ line-goes c.loop-len.filled cs c.args.values.now c.loop-len.len _ h c.in-Some.now c.loop-len-test.true c.in-Some.ensures }

pub returns-in-None : goal.returns-in-None
returns-in-None c = λ cs h. c.loop-len.invariant.read cs h ∙ line-blank c.loop-len.filled cs c.args.values.now c.loop-len.len _ h c.loop-len-test.true c.in-None.ensures

pub returns : goal.returns
returns c = λ cs h. c.loop-len.invariant.read cs h ∙ line-over c.loop-len.filled cs c.args.values.now c.loop-len.len 0 h c.loop-len-test.false
