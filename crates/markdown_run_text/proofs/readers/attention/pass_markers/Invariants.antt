use Rattle.std.proofs.Common.{◌≡◌, length}
use Rattle.markdown_content.specs.Place.{ahead_at}
use Rattle.markdown_run_text.specs.PlacesPassed.{past_run}
use Rattle.markdown_run_text.proofs.readers.attention.pass_markers.Given as goal

abbrev pub invariant-loop-cursor : goal.invariant-loop-cursor
invariant-loop-cursor l = past_run l.marker l.cursor ≡ past_run l.marker l.initial.cursor

abbrev pub decreases-loop-cursor : goal.decreases-loop-cursor
decreases-loop-cursor l = length (ahead_at l.cursor)
