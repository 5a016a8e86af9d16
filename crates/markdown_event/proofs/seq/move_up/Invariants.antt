use Rattle.std.proofs.Common.{◌≡◌, ◌≤◌, ◌+◌, ◌-◌, drop}
use lib.Seq.{paste}
use Rattle.markdown_event.proofs.seq.move_up.Given as goal

abbrev pub invariant-loop-left : goal.invariant-loop-left
invariant-loop-left g l = record {
  order : l.from ≤ l.left;
  within : l.left ≤ l.to;
  moved : l.items ≡ paste l.initial.items (l.left + l.gap) (drop l.left l.initial.items) (l.to - l.left);
}

abbrev pub decreases-loop-left : goal.decreases-loop-left
decreases-loop-left g l = l.left - l.from
