use Rattle.std.proofs.Common.{◌≤◌, ◌-◌, length}
use Rattle.markdown_inline_c.specs.ShortEvents.{TellNothing}
use Rattle.markdown_inline_c.proofs.form.next_telling.Given as goal

abbrev pub invariant-loop-number : goal.invariant-loop-number
invariant-loop-number l = record {
  low : l.from ≤ l.number;
  high : l.number ≤ length l.events;
  others : TellNothing l.events l.from l.number;
}

abbrev pub decreases-loop-number : goal.decreases-loop-number
decreases-loop-number l = length l.events - l.number
