-- The brackets before the place are found.
use Rattle.std.proofs.Common.{◌≡◌, ◌≤◌, ◌-◌, min}
use Rattle.std.specs.List.{slice_range}
use Rattle.markdown_notes.specs.BracketIndex.{places_from}
use Rattle.markdown_notes.proofs.bracket_index.BracketIndex.over.Given as goal

abbrev pub invariant-loop-at : goal.invariant-loop-at
invariant-loop-at l = record {
  first : min l.start l.stop ≤ l.at;
  last : l.at ≤ l.stop;
  places : l.places.items ≡ places_from l.start (slice_range l.bytes l.start l.at);
}

abbrev pub decreases-loop-at : goal.decreases-loop-at
decreases-loop-at l = l.stop - l.at
