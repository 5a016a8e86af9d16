use Rattle.std.proofs.Common.{◌≡◌, List, length, map, take}
use Rattle.markdown_event.specs.declared.event.Point.{Point}
use Rattle.markdown_engine_events.specs.MarkedEvents.{bare_at, marked}
use Rattle.markdown_engine_events.specs.Packed.{all_unpacked}
use Rattle.markdown_engine_events.proofs.packed.pack_marks.Given as goal

abbrev pub invariant-loop-index : goal.invariant-loop-index
invariant-loop-index g l = record {
  length : length l.events ≡ length l.marks;
  events : (points : List Point) → all_unpacked l.places ≡ map bare_at points → all_unpacked (take l.index l.events) ≡ marked points (take l.index l.marks);
}
