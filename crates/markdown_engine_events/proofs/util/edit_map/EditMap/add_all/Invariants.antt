use Rattle.std.proofs.Common.{◌≡◌, ◌≤◌, ◌-◌, ◌++◌, length, drop}
use Rattle.markdown_engine_events.specs.Edits.{edited, edited_from, edits_of, IsRest}
use Rattle.markdown_engine_events.proofs.EditLemmas.{Notes, KnowsRangeEnds}
use Rattle.markdown_engine_events.proofs.util.edit_map.EditMap.add_all.Given as goal

abbrev pub invariant-loop-index : goal.invariant-loop-index
invariant-loop-index l = record {
  within : l.passed.edits ≤ length l.edits.entries.now;
  here : l.index ≤ length l.events;
  rest : IsRest l.index l.self (drop l.passed.edits (edits_of l.edits));
  events : l.done ++ edited_from l.self l.index (drop l.index l.events) ≡ edited l.self l.events;
  notes : Notes l.self l.events l.index l.notes;
  removed : KnowsRangeEnds l.self l.index l.index l.passed.removed_to;
}

abbrev pub decreases-loop-index : goal.decreases-loop-index
decreases-loop-index l = l.count - l.index
