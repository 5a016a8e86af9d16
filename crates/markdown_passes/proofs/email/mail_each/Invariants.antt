use Rattle.std.proofs.Common.{◌≤◌, ◌-◌, length, drop}
use Rattle.markdown_passes.specs.TrimmedEvents.{HasPlaces}
use Rattle.markdown_passes.proofs.EmailEditLemmas.{IsMailing}
use Rattle.markdown_passes.proofs.email.mail_each.Given as goal

-- the edits so far, and those that are still to come
abbrev pub invariant-loop-index : goal.invariant-loop-index
invariant-loop-index l = record {
  from : l.from ≤ l.index;
  within : l.index ≤ length l.events;
  few : l.links ≤ l.from;
  places : HasPlaces l.bytes (drop l.index l.events);
  mailing : IsMailing l.bytes l.events l.map l.from l.index l.links;
}

abbrev pub decreases-loop-index : goal.decreases-loop-index
decreases-loop-index l = l.count - l.index
