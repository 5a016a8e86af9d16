use Rattle.std.proofs.Common.{◌≡◌, ◌++◌, take}
use Rattle.markdown_engine_events.specs.MarkedEvents.{marked}
use Rattle.markdown_engine_events.proofs.event_list.EventList.push_each_mark.Given as goal

abbrev pub invariant-loop-index : goal.invariant-loop-index
invariant-loop-index l = l.self ≡ l.initial.self ++ marked l.points (take l.index l.marks)
