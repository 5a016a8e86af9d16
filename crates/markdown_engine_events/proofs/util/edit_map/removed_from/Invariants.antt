use Rattle.std.proofs.Common.{◌≡◌, ◌-◌, ◌^◌, min, take}
use Rattle.markdown_engine_events.specs.Edits.{removed_at, kept}
use Rattle.markdown_engine_events.proofs.util.edit_map.removed_from.Given as goal

abbrev pub invariant-loop-edit : goal.invariant-loop-edit
invariant-loop-edit l =
    l.removed ≡ min (removed_at l.at (kept l.edits.comes.now (take l.edit-index l.edits.entries.now))) (2 ^ 64 - 1)
