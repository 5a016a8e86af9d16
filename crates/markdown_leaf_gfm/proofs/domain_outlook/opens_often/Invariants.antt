-- The places that are still to be found.
use Rattle.std.proofs.Common.{length}
use Rattle.markdown_content.specs.Place.{ahead_at}
use Rattle.markdown_leaf_gfm.proofs.DomainOutlookLemmas.{OpeningsAreLeft}
use Rattle.markdown_leaf_gfm.proofs.domain_outlook.opens_often.Given as goal

abbrev pub invariant-loop-left : goal.invariant-loop-left
invariant-loop-left l = OpeningsAreLeft l.times l.cursor.codes l.left l.place

abbrev pub decreases-loop-left : goal.decreases-loop-left
decreases-loop-left l = length (ahead_at l.place)
