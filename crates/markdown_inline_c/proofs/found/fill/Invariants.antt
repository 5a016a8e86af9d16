use Rattle.markdown_inline_c.specs.FlatEvents.{flat_event}
use Rattle.markdown_inline_c.proofs.Filled.{IsFilledFrom}
use Rattle.markdown_inline_c.proofs.found.fill.Given as goal

abbrev pub invariant-loop-at : goal.invariant-loop-at
invariant-loop-at l = IsFilledFrom flat_event l.events l.array l.at
