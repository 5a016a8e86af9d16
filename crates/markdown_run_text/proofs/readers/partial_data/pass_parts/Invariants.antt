use Rattle.std.proofs.Common.{◌≡◌, length, true}
use Rattle.markdown_content.specs.Place.{ahead_at}
use Rattle.markdown_run_text.specs.PlacesPassed.{past_data}
use Rattle.markdown_run_text.proofs.readers.partial_data.pass_parts.Given as goal

abbrev pub invariant-loop : goal.invariant-loop
invariant-loop l = past_data true l.cursor ≡ past_data true l.fn.cursor

abbrev pub decreases-loop : goal.decreases-loop
decreases-loop l = length (ahead_at l.cursor)
