use Rattle.std.proofs.Common.{arith}
use Rattle.markdown_event.proofs.PastedParts.{pasted-up}
use Rattle.markdown_event.proofs.seq.move_up.Goals as goal

pub loop-left-preserved : goal.loop-left-preserved
loop-left-preserved g c = grind (arith, pasted-up)
