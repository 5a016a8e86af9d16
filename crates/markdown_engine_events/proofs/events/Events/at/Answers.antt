use Rattle.std.proofs.Common.{arith, ap, length}
use Rattle.markdown_engine_events.proofs.EventChainLemmas.{length-chained}
use Rattle.markdown_engine_events.proofs.events.Events.at.Goals as goal

pub at-requires : goal.at-requires
at-requires c =
    let size = ap length c.as_slice.ensures.events in
    let same = length-chained 0 c.args.self.now in
    omega arith
