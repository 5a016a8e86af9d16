use Rattle.markdown_block_definitions.proofs.LineCounts.{blank-ends, filled-ends, filled-stays, blank-goes}
use Rattle.markdown_block_definitions.proofs.texts.filled_behind.Goals as goal

pub returns-then-not-filled : goal.returns-then-not-filled
returns-then-not-filled c = λ d cs i. blank-ends c.args.filled c.args.value d cs i c.if-value-eq10.true c.if-not-filled.true

pub returns-then-value-eq10 : goal.returns-then-value-eq10
returns-then-value-eq10 c = λ d cs i. filled-ends c.args.filled c.args.value d cs i c.if-value-eq10.true c.if-not-filled.false

pub returns-then-filled : goal.returns-then-filled
returns-then-filled c = λ d cs i. filled-stays c.args.filled c.args.value d cs i c.if-value-eq10.false c.if-filled.true

pub returns : goal.returns
returns c = λ d cs i. blank-goes c.args.filled c.is_blank.result c.args.value d cs i c.if-value-eq10.false c.if-filled.false c.is_blank.ensures
