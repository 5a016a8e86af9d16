use Rattle.std.proofs.Common.{◌≡◌, ◌-◌, ◌≤◌, length}
use Rattle.markdown_lines.specs.PiecesOfLines.{line_stop}
use Rattle.markdown_lines.proofs.lines.line_stop.Given as goal

abbrev pub invariant-loop-stop : goal.invariant-loop-stop
invariant-loop-stop l = (l.stop ≤ length l.bytes) × (line_stop l.bytes l.stop ≡ line_stop l.bytes l.at)

abbrev pub decreases-loop-stop : goal.decreases-loop-stop
decreases-loop-stop l = length l.bytes - l.stop
