use Rattle.std.proofs.Common.{arith}
use Rattle.markdown_event.proofs.PastedParts.{pasted-down}
use Rattle.markdown_event.proofs.seq.move_down.Goals as goal

pub loop-done-preserved : goal.loop-done-preserved
loop-done-preserved g c = grind (arith, pasted-down)
