use Rattle.std.proofs.Common.{◌≡◌, length, map, take}
use Rattle.markdown_engine_events.specs.MarkedEvents.{bare_at}
use Rattle.markdown_engine_events.specs.Packed.{all_unpacked}
use Rattle.markdown_engine_events.proofs.packed.pack_places.Given as goal

abbrev pub invariant-loop-index : goal.invariant-loop-index
invariant-loop-index g l = record {
  length : length l.places ≡ length l.points;
  places : all_unpacked (take l.index l.places) ≡ map bare_at (take l.index l.points);
}
