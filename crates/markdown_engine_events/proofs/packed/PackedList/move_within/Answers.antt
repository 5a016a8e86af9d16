use Rattle.std.proofs.Common.{◌-◌, arith}
use Rattle.markdown_engine_events.proofs.PackedLemmas.{length-moved, length-seen, view-moved}
use Rattle.markdown_engine_events.proofs.packed.PackedList.move_within.Goals as goal

pub invariant_of-self : goal.invariant_of-self
invariant_of-self c =
    let size = length-seen _ _ _ c.self.view_is in
    let stays = length-moved _ _ c.args.place c.args.from (c.args.to - c.args.from) c.move_within.ensures (omega (arith, size, c.requires.order, c.requires.within)) (omega (arith, size, c.requires.room)) in
    omega (arith, stays, c.self.invariant)

pub returns : goal.returns
returns c =
    view-moved _ _ _ c.args.place c.args.from (c.args.to - c.args.from) c.self.view_is c.move_within.ensures (omega (arith, c.requires.order, c.requires.within)) c.requires.room c.requires.alone
