use Rattle.std.proofs.Common.{◌-◌, length}
use Rattle.markdown_blocks.specs.LinesLeft.{IsProgress}
use Rattle.markdown_blocks.proofs.document.blocks.Given as goal

abbrev pub invariant-loop-point : goal.invariant-loop-point
invariant-loop-point g l = IsProgress l.extensions g.T.HasText.has_text l.bytes (record { reader = l.reader; lines = l.lines; point = l.point; number = l.number })

abbrev pub decreases-loop-point : goal.decreases-loop-point
decreases-loop-point g l = length l.bytes - l.point.index
