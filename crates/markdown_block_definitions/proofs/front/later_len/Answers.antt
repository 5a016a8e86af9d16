use Rattle.std.proofs.Common.{◌∙◌, ◌++◌, ap, refl, take, false, arith}
use Rattle.markdown_model.specs.CodeTests.{values_of}
use Rattle.markdown_block_definitions.proofs.SaidTexts.{said-more, said-stops, said-over}
use Rattle.markdown_block_definitions.proofs.front.later_len.Goals as goal

pub loop-len-init : goal.loop-len-init
loop-len-init c = record { within = omega arith; text = λ cs b. refl }

pub loop-len-preserved : goal.loop-len-preserved
loop-len-preserved c = record {
  within = omega (arith, c.loop-len-test.true);
  text = λ cs b. said-more cs c.args.firsts.now c.loop-len.len _ b c.loop-len-test.true c.if-firsts-len.false (c.loop-len.invariant.text cs b);
}

pub returns-then-firsts-len-clause-text : goal.returns-then-firsts-len-clause-text
returns-then-firsts-len-clause-text c = λ cs b. c.loop-len.invariant.text cs b ∙ ap (λ ts. values_of (take c.loop-len.len cs) ++ ts) (said-stops cs c.args.firsts.now c.loop-len.len _ b c.loop-len-test.true c.if-firsts-len.true)

pub returns-clause-text : goal.returns-clause-text
returns-clause-text c = λ cs b. c.loop-len.invariant.text cs b ∙ ap (λ ts. values_of (take c.loop-len.len cs) ++ ts) (said-over cs c.args.firsts.now c.loop-len.len false b c.loop-len-test.false)
