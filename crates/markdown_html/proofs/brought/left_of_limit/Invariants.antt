use Rattle.std.proofs.Common.{◌≡◌, ◌≤◌, ◌-◌, Some, drop, length}
use Rattle.markdown_html.specs.BroughtWalk.{count_begun, count_of, counted}
use Rattle.markdown_html.specs.View.{page_of}
use Rattle.markdown_html.proofs.brought.left_of_limit.Given as goal

-- the rest of the walk gives what the whole walk gives
abbrev pub invariant-loop-index : goal.invariant-loop-index
invariant-loop-index l = record {
  high : l.index ≤ length l.events;
  whole : counted (page_of l.given) (count_of l.count) (drop l.index l.events) ≡ counted (page_of l.given) (count_begun (Some l.limit)) l.events;
}

abbrev pub decreases-loop-index : goal.decreases-loop-index
decreases-loop-index l = length l.events - l.index
