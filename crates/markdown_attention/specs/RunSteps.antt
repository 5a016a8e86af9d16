-- Which events change what is read of the runs.
use Rattle.std.specs.Prelude.{Bool, ◌||◌}
use Rattle.markdown_event.specs.declared.event.Event.{Event}
use Rattle.markdown_event.specs.declared.event.Name.{Name}
use Rattle.markdown_attention.specs.RunsRead.{is_run, is_text, opens_run}

-- the Enter of a run, or an event of the text of a label
abbrev pub changes_reading : Event → Bool
changes_reading e = opens_run e || is_text e.name

-- the name of a run, or of the text of a label
abbrev pub is_run_or_text : Name → Bool
is_run_or_text name = is_run name || is_text name
