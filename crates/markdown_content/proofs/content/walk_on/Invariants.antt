use Rattle.markdown_content.proofs.WalkSteps.{codes_left_at}
use Rattle.markdown_content.proofs.WalkTargets.{IsReaching}
use Rattle.markdown_content.proofs.content.walk_on.Given as goal

abbrev pub invariant-loop-stretch : goal.invariant-loop-stretch
invariant-loop-stretch l = IsReaching l.bytes l.fn.point l.place l.stretch

abbrev pub decreases-loop-stretch : goal.decreases-loop-stretch
decreases-loop-stretch l = codes_left_at l.bytes l.stretch.point
