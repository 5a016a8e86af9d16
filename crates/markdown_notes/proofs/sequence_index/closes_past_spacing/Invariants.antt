-- Whitespace is passed.
use Rattle.std.proofs.Common.{length}
use Rattle.markdown_content.specs.Place.{ahead_at}
use Rattle.markdown_notes.proofs.SequenceIndexLemmas.{IsSpaced}
use Rattle.markdown_notes.proofs.sequence_index.closes_past_spacing.Given as goal

abbrev pub invariant-loop-code : goal.invariant-loop-code
invariant-loop-code l = IsSpaced l.cursor l.place

abbrev pub decreases-loop-code : goal.decreases-loop-code
decreases-loop-code l = length (ahead_at l.place)
