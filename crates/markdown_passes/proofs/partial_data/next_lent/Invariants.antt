use Rattle.std.proofs.Common.{◌≤◌, ◌-◌, length}
use Rattle.markdown_passes.proofs.DataSearch.{BeginsNone}
use Rattle.markdown_passes.proofs.partial_data.next_lent.Given as goal

-- no data begins before the event at hand
abbrev pub invariant-loop-at : goal.invariant-loop-at
invariant-loop-at l = record {
  from : l.from ≤ l.at;
  within : l.at ≤ length l.events;
  none : BeginsNone l.events l.from l.at;
}

abbrev pub decreases-loop-at : goal.decreases-loop-at
decreases-loop-at l = l.count - l.at
