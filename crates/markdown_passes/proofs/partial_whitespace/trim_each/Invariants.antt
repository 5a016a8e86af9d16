use Rattle.std.proofs.Common.{◌≡◌, ◌≤◌, ◌-◌, ◌++◌, drop, length}
use Rattle.markdown_passes.specs.TrimmedEvents.{breaks_of, flag, trims, HasPlaces}
use Rattle.markdown_passes.proofs.partial_whitespace.trim_each.Given as goal

-- the edits so far, and those that are still to come
abbrev pub invariant-loop-index : goal.invariant-loop-index
invariant-loop-index l = record {
  within : l.index ≤ length l.events;
  places : HasPlaces l.bytes (drop l.index l.events);
  trims : l.map ++ trims l.bytes (breaks_of l.trimming.hard) l.trimming.whole l.index (flag l.index l.trimming.whole l.events) (drop l.index l.events) ≡ trims l.bytes (breaks_of l.trimming.hard) l.trimming.whole 0 l.trimming.whole l.events;
}

abbrev pub decreases-loop-index : goal.decreases-loop-index
decreases-loop-index l = l.count - l.index
