use Rattle.std.proofs.Common.{◌≡◌, ◌≤◌, length, true}
use Rattle.markdown_content.specs.Place.{ahead_at}
use Rattle.markdown_run_text.specs.PlacesPassed.{past_data}
use Rattle.markdown_run_text.proofs.readers.partial_data.pass_codes.Given as goal

abbrev pub invariant-loop-cursor : goal.invariant-loop-cursor
invariant-loop-cursor l =
    (past_data true l.cursor ≡ past_data true l.fn.cursor) × (length (ahead_at l.cursor) ≤ length (ahead_at l.fn.cursor))

abbrev pub decreases-loop-cursor : goal.decreases-loop-cursor
decreases-loop-cursor l = length (ahead_at l.cursor)
