use Rattle.std.proofs.Common.{arith}
use Rattle.markdown_engine_events.proofs.PackedLemmas.{length-seen, view-alone}
use Rattle.markdown_engine_events.proofs.packed.PackedSlice.is_alone.Goals as goal

pub returns-in-Alone-clause-previous : goal.returns-in-Alone-clause-previous
returns-in-Alone-clause-previous c = λ t e.
    let size = length-seen _ _ _ c.self.view_is in
    (view-alone _ _ _ c.args.index _ e c.self.view_is (omega arith) c.in-Alone.is).0

pub returns-in-Alone-clause-next : goal.returns-in-Alone-clause-next
returns-in-Alone-clause-next c = λ t e.
    let size = length-seen _ _ _ c.self.view_is in
    (view-alone _ _ _ c.args.index _ e c.self.view_is (omega arith) c.in-Alone.is).1
