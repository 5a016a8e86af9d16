use Rattle.std.proofs.Common.{IsTrue}
use Rattle.markdown_content.specs.Codes.{place_of, is_at_or_after}
use Rattle.markdown_content.specs.DocumentWalk.{IsPoint}
use Rattle.markdown_content.proofs.WalkSteps.{codes_left_at}
use Rattle.markdown_document.proofs.places.near.Given as goal

abbrev pub invariant-loop-point : goal.invariant-loop-point
invariant-loop-point l = IsPoint l.bytes l.point × IsTrue (is_at_or_after (place_of l.point) (l.index, 0))

abbrev pub decreases-loop-point : goal.decreases-loop-point
decreases-loop-point l = codes_left_at l.bytes l.point
