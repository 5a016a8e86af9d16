-- The codes that are still to be found.
use Rattle.std.proofs.Common.{length}
use Rattle.markdown_content.specs.Place.{ahead_at}
use Rattle.markdown_content.proofs.ByteCounts.{AreLeftToFind}
use Rattle.markdown_content.proofs.cursor.Cursor.holds.Given as goal

abbrev pub invariant-loop-left : goal.invariant-loop-left
invariant-loop-left l = AreLeftToFind l.bytes l.times l.self.codes l.left l.place

abbrev pub decreases-loop-left : goal.decreases-loop-left
decreases-loop-left l = length (ahead_at l.place)
