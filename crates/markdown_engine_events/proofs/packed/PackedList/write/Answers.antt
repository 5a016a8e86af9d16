use Rattle.std.proofs.Common.{arith}
use Rattle.markdown_engine_events.proofs.PackedLemmas.{length-seen, length-written, view-written}
use Rattle.markdown_engine_events.proofs.packed.PackedList.write.Goals as goal

pub invariant_of-self : goal.invariant_of-self
invariant_of-self c =
    let size = length-seen _ _ _ c.self.view_is in
    let brings = length-seen _ _ _ c.events.view_is in
    let stays = length-written _ _ _ c.args.place c.write.ensures (omega (arith, size, brings, c.requires.room)) in
    omega (arith, stays, c.self.invariant)

pub returns : goal.returns
returns c = view-written _ _ _ _ _ _ _ c.self.view_is c.events.view_is c.write.ensures c.requires.room c.requires.alone
