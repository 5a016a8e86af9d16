use Rattle.std.proofs.Common.{length}
use Rattle.markdown_content.specs.Place.{ahead_at}
use Rattle.markdown_notes.proofs.SequenceIndexLemmas.{AreBeginsFound}
use Rattle.markdown_notes.proofs.sequence_index.last_in_codes.Given as goal

abbrev pub invariant-loop-code : goal.invariant-loop-code
invariant-loop-code l = AreBeginsFound l.cursor.codes l.place l.last

abbrev pub decreases-loop-code : goal.decreases-loop-code
decreases-loop-code l = length (ahead_at l.place)
