use Rattle.std.proofs.Common.{IsTrue}
use Rattle.markdown_content.specs.Codes.{place_of, is_at_or_after}
use Rattle.markdown_content.specs.DocumentWalk.{IsPoint}
use Rattle.markdown_content.proofs.WalkSteps.{codes_left_at}
use Rattle.markdown_content.proofs.walk.walk_to.Given as goal

abbrev pub invariant-loop-place : goal.invariant-loop-place
invariant-loop-place l = IsPoint l.bytes l.point × IsTrue (is_at_or_after (place_of l.point) l.place)

abbrev pub decreases-loop-place : goal.decreases-loop-place
decreases-loop-place l = codes_left_at l.bytes l.point
