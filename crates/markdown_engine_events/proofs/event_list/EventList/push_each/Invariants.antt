use Rattle.std.proofs.Common.{◌≡◌, ◌++◌, take}
use Rattle.markdown_engine_events.proofs.event_list.EventList.push_each.Given as goal

abbrev pub invariant-loop-index : goal.invariant-loop-index
invariant-loop-index l = l.self ≡ l.initial.self ++ take l.index l.events
