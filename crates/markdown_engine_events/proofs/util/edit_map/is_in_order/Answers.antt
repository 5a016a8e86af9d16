use Rattle.std.proofs.Common.{arith}
use Rattle.markdown_engine_events.proofs.EditOrder.{first-rises, rises-more, all-rise}
use Rattle.markdown_engine_events.proofs.util.edit_map.is_in_order.Goals as goal

pub loop-index-init : goal.loop-index-init
loop-index-init c = first-rises c.args.log.now

pub loop-index-preserved : goal.loop-index-preserved
loop-index-preserved c =
    rises-more c.args.log.now c.loop-index.index (omega arith) (omega (arith, c.loop-index-test.true)) (omega (arith, c.if-log-index.false)) c.loop-index.invariant

pub returns : goal.returns
returns c = λ t. all-rise c.args.log.now c.loop-index.index (omega (arith, c.loop-index-test.false)) c.loop-index.invariant
