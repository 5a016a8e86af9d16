use Rattle.std.proofs.Common.{◌≡◌, ◌≤◌, ◌-◌}
use Rattle.markdown_content.specs.DocumentWalk.{IsPoint}
use Rattle.markdown_document.proofs.places.pass_whole_groups.Given as goal

abbrev pub invariant-loop-point : goal.invariant-loop-point
invariant-loop-point l = IsPoint l.bytes l.point × (l.point.vs ≡ 0) × (l.point.index ≤ l.to) × (l.fn.point.index ≤ l.point.index)

abbrev pub decreases-loop-point : goal.decreases-loop-point
decreases-loop-point l = l.to - l.point.index
