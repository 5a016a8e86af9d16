use Rattle.markdown_inline_c.proofs.Labels.{LabelsAreRead}
use Rattle.markdown_inline_c.proofs.input.some_identifiers_of.Given as goal

abbrev pub invariant-loop-range : goal.invariant-loop-range
invariant-loop-range l = LabelsAreRead l.replaced l.labels l.ranges l.found.items l.range-index
