use Rattle.std.proofs.Common.{arith}
use Rattle.markdown_engine_events.proofs.EditOrder.{all-below}
use Rattle.markdown_engine_events.proofs.util.edit_map.end_of.Goals as goal

pub returns-else-n-eq0 : goal.returns-else-n-eq0
returns-else-n-eq0 c = λ up. all-below c.args.log.now c.args.n (omega (arith, c.if-n-eq0.false)) c.requires up
