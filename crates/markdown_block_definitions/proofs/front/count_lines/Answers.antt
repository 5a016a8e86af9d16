use Rattle.std.proofs.Common.{arith}
use Rattle.markdown_block_definitions.proofs.LinesTaken.{lines-none, lines-more, lines-all}
use Rattle.markdown_block_definitions.proofs.front.count_lines.Goals as goal

pub loop-index-init : goal.loop-index-init
loop-index-init c = record { few = omega arith; counts = λ cs h. lines-none cs c.args.values.now _ h (omega arith) }

pub loop-index-preserved : goal.loop-index-preserved
loop-index-preserved c = record {
  few = omega (arith, c.lines_ended-lines.ensures.within, c.loop-index.invariant.few, c.loop-index-test.true);
  counts = λ cs h. lines-more cs c.loop-index.index _ c.loop-index.lines _ (omega (arith, c.loop-index-test.true)) (c.loop-index.invariant.counts cs h) (c.lines_ended-lines.ensures.count cs h);
}

pub returns : goal.returns
returns c = λ cs h. lines-all cs c.loop-index.index c.loop-index.lines (omega (arith, c.loop-index-test.false)) (c.loop-index.invariant.counts cs h)
