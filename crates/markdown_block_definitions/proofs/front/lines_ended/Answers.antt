use Rattle.std.proofs.Common.{arith}
use Rattle.markdown_block_definitions.proofs.LinesTaken.{count-last, count-ending, count-other}
use Rattle.markdown_block_definitions.proofs.front.lines_ended.Goals as goal

pub returns-then-index-values-clause-count : goal.returns-then-index-values-clause-count
returns-then-index-values-clause-count c = λ cs h. count-last cs c.args.values.now c.args.index 0 h c.requires (omega (arith, c.if-index-values.true))

pub returns-then-values-index-eq10-clause-count : goal.returns-then-values-index-eq10-clause-count
returns-then-values-index-eq10-clause-count c = λ cs h. count-ending cs c.args.values.now c.args.index _ h c.requires c.if-values-index-eq10.true

pub returns-clause-count : goal.returns-clause-count
returns-clause-count c = λ cs h. count-other cs c.args.values.now c.args.index _ h c.requires (λ e. c.if-index-values.false (omega (arith, e))) c.if-values-index-eq10.false
