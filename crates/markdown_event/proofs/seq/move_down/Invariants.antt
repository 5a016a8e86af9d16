use Rattle.std.proofs.Common.{◌≡◌, ◌≤◌, ◌-◌, drop}
use lib.Seq.{paste}
use Rattle.markdown_event.proofs.seq.move_down.Given as goal

abbrev pub invariant-loop-done : goal.invariant-loop-done
invariant-loop-done g l = record {
  order : l.from ≤ l.done;
  within : l.done ≤ l.to;
  moved : l.items ≡ paste l.initial.items (l.from - l.gap) (drop l.from l.initial.items) (l.done - l.from);
}

abbrev pub decreases-loop-done : goal.decreases-loop-done
decreases-loop-done g l = l.to - l.done
