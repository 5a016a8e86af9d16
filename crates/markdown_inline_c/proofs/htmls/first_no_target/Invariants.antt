use Rattle.std.proofs.Common.{take}
use Rattle.std.specs.List.{All}
use Rattle.markdown_inline_c.specs.FlatHtml.{IsTarget}
use Rattle.markdown_inline_c.proofs.htmls.first_no_target.Given as goal

abbrev pub invariant-loop-at : goal.invariant-loop-at
invariant-loop-at l = All (IsTarget l.labels) (take l.at l.targets)
