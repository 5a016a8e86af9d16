use Rattle.std.proofs.Common.{◌≡◌, ◌≤◌, ◌+◌, length, take}
use Rattle.markdown_engine_events.proofs.util.edits_in_place.add_room.Given as goal

abbrev pub invariant-loop-left : goal.invariant-loop-left
invariant-loop-left l = record {
  stays : take (length l.initial.items) l.items ≡ l.initial.items;
  room : length l.items + l.left ≡ length l.initial.items + l.more;
  within : l.left ≤ l.more;
}

abbrev pub decreases-loop-left : goal.decreases-loop-left
decreases-loop-left l = l.left
