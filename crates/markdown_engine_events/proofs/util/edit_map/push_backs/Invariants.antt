use Rattle.std.proofs.Common.{◌≡◌, ◌++◌, take}
use Rattle.markdown_engine_events.specs.Edits.{back_at, kept}
use Rattle.markdown_engine_events.proofs.util.edit_map.push_backs.Given as goal

abbrev pub invariant-loop-edit : goal.invariant-loop-edit
invariant-loop-edit l =
    l.done ≡ l.initial.done ++ back_at l.at (kept l.edits.comes.now (take l.edit-index l.edits.entries.now))
