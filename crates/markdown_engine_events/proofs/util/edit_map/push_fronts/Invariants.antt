use Rattle.std.proofs.Common.{◌≡◌, ◌++◌, drop}
use Rattle.markdown_engine_events.specs.Edits.{front_at, kept}
use Rattle.markdown_engine_events.proofs.util.edit_map.push_fronts.Given as goal

abbrev pub invariant-loop-index : goal.invariant-loop-index
invariant-loop-index l =
    l.done ≡ l.initial.done ++ front_at l.at (kept l.edits.comes.now (drop l.index l.edits.entries.now))
