use Rattle.std.proofs.Common.{◌≡◌, ◌-◌, ◌<◌, ◌≤◌, length, drop, get_or, true}
use Rattle.markdown_event.specs.declared.event.Event.{Event}
use Rattle.markdown_passes.specs.MergedEvents.{opens_data}
use Rattle.markdown_passes.specs.ClearStretch.{IsClear}
use Rattle.markdown_passes.specs.TrimmedEvents.{HasPlaces}
use Rattle.markdown_passes.proofs.EmailEditLemmas.{SignsNone}
use Rattle.markdown_passes.proofs.email.next_signed.Given as goal

-- no data before this one has an `@`
abbrev pub invariant-loop-index : goal.invariant-loop-index
invariant-loop-index l = record {
  from : l.from ≤ l.index;
  within : l.index ≤ length l.events;
  places : HasPlaces l.bytes (drop l.index l.events);
  none : SignsNone l.bytes l.events l.from l.index;
  opens : (e : Event) → l.index < length l.events → opens_data (get_or l.events l.index e) ≡ true;
  clear : IsClear l.bytes l.clear;
}

abbrev pub decreases-loop-index : goal.decreases-loop-index
decreases-loop-index l = l.count - l.index
