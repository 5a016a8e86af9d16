use Rattle.std.proofs.Common.{◌≡◌, [], None, length}
use Rattle.markdown_content.specs.Place.{ahead_at}
use Rattle.markdown_notes.specs.RunIndex.{entries_from, AreEntriesInOrder}
use Rattle.markdown_notes.proofs.run_index.RunIndex.over.Given as goal

abbrev pub invariant-loop-code : goal.invariant-loop-code
invariant-loop-code l =
    ((l.place.codes ≡ l.cursor.codes) × (entries_from l.asked None 0 l.cursor.codes [] ≡ entries_from l.asked None l.place.at (ahead_at l.place) l.last.items)) × AreEntriesInOrder l.last.items

abbrev pub decreases-loop-code : goal.decreases-loop-code
decreases-loop-code l = length (ahead_at l.place)
