use Rattle.std.proofs.Common.{◌≡◌, drop}
use Rattle.markdown_engine_events.specs.Edits.{number_of}
use Rattle.markdown_engine_events.proofs.util.edit_map.number_of.Given as goal

abbrev pub invariant-loop-depth : goal.invariant-loop-depth
invariant-loop-depth l = number_of (drop l.depth l.notes) l.event ≡ number_of l.notes l.event
