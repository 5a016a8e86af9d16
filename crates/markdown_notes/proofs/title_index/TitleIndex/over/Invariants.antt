use Rattle.std.proofs.Common.{false, length}
use Rattle.markdown_content.specs.Place.{ahead_at}
use Rattle.markdown_notes.proofs.TitleIndexLemmas.{AreClosersFound}
use Rattle.markdown_notes.proofs.title_index.TitleIndex.over.Given as goal

abbrev pub invariant-loop-code : goal.invariant-loop-code
invariant-loop-code l = AreClosersFound l.cursor.codes l.place false l.closers.items

abbrev pub decreases-loop-code : goal.decreases-loop-code
decreases-loop-code l = length (ahead_at l.place)
