use Rattle.std.proofs.Common.{◌≡◌, take}
use Rattle.markdown_inline_c.specs.ShortEvents.{noted}
use Rattle.markdown_inline_c.proofs.found.note_all.Given as goal

abbrev pub invariant-loop-at : goal.invariant-loop-at
invariant-loop-at l = l.array ≡ noted (take l.at l.told) l.fn.array
