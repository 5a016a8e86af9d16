use Rattle.std.proofs.Common.{◌≡◌, ◌<◌, ◌≤◌, ◌-◌, ◌++◌, drop, get_or, length, true}
use Rattle.markdown_event.specs.declared.event.Event.{Event}
use Rattle.markdown_passes.specs.MergedEvents.{joints, opens_data}
use Rattle.markdown_passes.proofs.partial_data.mark_joints.Given as goal

-- the joints so far, and those that are still to come
abbrev pub invariant-loop-index : goal.invariant-loop-index
invariant-loop-index l = record {
  within : l.index ≤ length l.events;
  opens : (e : Event) → l.index < length l.events → opens_data (get_or l.events l.index e) ≡ true;
  joints : l.map ++ joints (l.index - 2) (drop (l.index - 2) l.events) ≡ joints 0 l.events;
}

abbrev pub decreases-loop-index : goal.decreases-loop-index
decreases-loop-index l = l.count - l.index
