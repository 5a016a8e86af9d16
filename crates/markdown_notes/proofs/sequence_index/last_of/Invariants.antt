-- The sequence begins nowhere from the end of what is left on.
use Rattle.std.proofs.Common.{◌≤◌, List, length}
use Rattle.markdown_content.specs.Codes.{Code}
use Rattle.markdown_content.specs.ContentBytes.{AreBytes}
use Rattle.markdown_notes.proofs.SequenceBytes.{BeginsNowhere}
use Rattle.markdown_notes.proofs.sequence_index.last_of.Given as goal

abbrev pub invariant-loop-at : goal.invariant-loop-at
invariant-loop-at l = (l.end ≤ length l.bytes) × ((cs : List Code) → AreBytes l.bytes cs → BeginsNowhere l.sequence cs l.end)

abbrev pub decreases-loop-at : goal.decreases-loop-at
decreases-loop-at l = l.end
