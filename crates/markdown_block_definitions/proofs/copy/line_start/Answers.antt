use Rattle.markdown_block_definitions.proofs.SpotReads.{spot-line, spot-first}
use Rattle.markdown_block_definitions.proofs.copy.line_start.Goals as goal

pub returns-then-ends_line-clause-spot : goal.returns-then-ends_line-clause-spot
returns-then-ends_line-clause-spot c = spot-line c.args.bytes.now c.loop-start.start c.loop-start-test.true c.loop-start.invariant.within (c.ends_line.ensures c.if-ends_line.true)

pub returns-clause-spot : goal.returns-clause-spot
returns-clause-spot c = spot-first c.args.bytes.now c.loop-start.start c.loop-start-test.false
