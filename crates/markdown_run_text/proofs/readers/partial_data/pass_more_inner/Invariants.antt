use Rattle.std.proofs.Common.{◌≡◌, length}
use Rattle.std.specs.Prelude.{IsSome}
use Rattle.markdown_content.specs.Place.{ahead_at, code_at, moved}
use Rattle.markdown_run_text.specs.PlacesPassed.{past_inner}
use Rattle.markdown_run_text.proofs.readers.partial_data.pass_more_inner.Given as goal

-- the reader comes to the same place from here and from the start
abbrev pub invariant-loop-literals : goal.invariant-loop-literals
invariant-loop-literals l =
    (past_inner l.literals (moved l.cursor) ≡ past_inner l.literals (moved l.fn.cursor)) × IsSome (code_at l.cursor)

abbrev pub decreases-loop-literals : goal.decreases-loop-literals
decreases-loop-literals l = length (ahead_at l.cursor)
