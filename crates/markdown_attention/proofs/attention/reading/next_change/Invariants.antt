use Rattle.std.proofs.Common.{◌≤◌, ◌-◌, length}
use Rattle.markdown_attention.proofs.RunSearch.{AreOthers}
use Rattle.markdown_attention.proofs.attention.reading.next_change.Given as goal

abbrev pub invariant-loop-at : goal.invariant-loop-at
invariant-loop-at l = record {
  from : l.from ≤ l.at;
  within : l.at ≤ length l.events;
  none : AreOthers l.events l.from l.at;
}

abbrev pub decreases-loop-at : goal.decreases-loop-at
decreases-loop-at l = l.count - l.at
