use Rattle.std.proofs.Common.{arith}
use Rattle.markdown_event.proofs.PastedParts.{pasted-same}
use Rattle.markdown_event.proofs.seq.move_items.Goals as goal

pub returns-else-place-from-2 : goal.returns-else-place-from-2
returns-else-place-from-2 g c = grind (arith, pasted-same)
