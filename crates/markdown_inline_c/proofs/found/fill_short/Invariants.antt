use Rattle.std.proofs.Common.{None}
use Rattle.markdown_inline_c.specs.FlatEvents.{short_event}
use Rattle.markdown_inline_c.proofs.Filled.{IsFilledFrom}
use Rattle.markdown_inline_c.proofs.found.fill_short.Given as goal

abbrev pub invariant-loop-at : goal.invariant-loop-at
invariant-loop-at l = IsFilledFrom (short_event None) l.events l.array l.at
