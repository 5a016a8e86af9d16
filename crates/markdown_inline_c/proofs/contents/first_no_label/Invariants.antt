use Rattle.std.proofs.Common.{take}
use Rattle.std.specs.List.{All}
use Rattle.markdown_inline_c.specs.FlatInput.{IsLabelRange}
use Rattle.markdown_inline_c.proofs.contents.first_no_label.Given as goal

abbrev pub invariant-loop-at : goal.invariant-loop-at
invariant-loop-at l = All (IsLabelRange l.labels) (take l.at l.ranges)
