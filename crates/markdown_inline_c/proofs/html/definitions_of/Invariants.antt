use Rattle.markdown_inline_c.proofs.Targets.{AreDefined}
use Rattle.markdown_inline_c.proofs.html.definitions_of.Given as goal

abbrev pub invariant-loop-at : goal.invariant-loop-at
invariant-loop-at l = AreDefined l.replaced l.labels l.ranges l.targets l.found l.at
