use Rattle.std.proofs.Common.{arith}
use Rattle.markdown_engine_events.proofs.EditOrder.{here-more}
use Rattle.markdown_engine_events.proofs.util.edit_map.count_at.Goals as goal

pub loop-count-preserved : goal.loop-count-preserved
loop-count-preserved c =
    (omega arith, here-more c.args.at c.args.edits.now c.loop-count.count c.loop-count-test.true c.if-edits-count.true c.loop-count.invariant.1)
