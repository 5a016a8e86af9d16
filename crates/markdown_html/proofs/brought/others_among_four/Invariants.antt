use Rattle.std.proofs.Common.{◌≡◌, ◌+◌, drop}
use Rattle.markdown_html_model.specs.Html.{Page}
use Rattle.markdown_html.specs.BroughtWalk.{Counted, counted}
use Rattle.markdown_html.proofs.brought.others_among_four.Given as goal

abbrev pub invariant-loop-count : goal.invariant-loop-count
invariant-loop-count l = (p : Page) (s : Counted) → counted p s (drop (l.at + l.count) l.events) ≡ counted p s (drop l.at l.events)
