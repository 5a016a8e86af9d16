use Rattle.std.proofs.Common.{◌≡◌, ◌≤◌, ◌-◌, drop, length}
use Rattle.markdown_html_model.specs.Html.{Page}
use Rattle.markdown_html.specs.BroughtWalk.{Counted, counted}
use Rattle.markdown_html.proofs.brought.next_apart.Given as goal

abbrev pub invariant-loop-index : goal.invariant-loop-index
invariant-loop-index l = record {
  low : l.from ≤ l.index;
  high : l.index ≤ length l.events;
  same : (p : Page) (s : Counted) → counted p s (drop l.index l.events) ≡ counted p s (drop l.from l.events);
}

abbrev pub decreases-loop-index : goal.decreases-loop-index
decreases-loop-index l = length l.events - l.index
