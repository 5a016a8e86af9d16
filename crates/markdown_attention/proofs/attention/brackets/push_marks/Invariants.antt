use Rattle.std.proofs.Common.{◌≡◌, ◌++◌, take}
use Rattle.markdown_engine_events.specs.MarkedEvents.{marked}
use Rattle.markdown_attention.proofs.attention.brackets.push_marks.Given as goal

abbrev pub invariant-loop-mark : goal.invariant-loop-mark
invariant-loop-mark l = l.events.items ≡ l.initial.events.items ++ marked l.places (take l.mark-index l.marks)
