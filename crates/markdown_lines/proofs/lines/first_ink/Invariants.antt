use Rattle.std.proofs.Common.{◌≡◌, ◌-◌, ◌≤◌, length}
use Rattle.markdown_lines.specs.PiecesOfLines.{first_ink}
use Rattle.markdown_lines.proofs.lines.first_ink.Given as goal

abbrev pub invariant-loop-ink : goal.invariant-loop-ink
invariant-loop-ink l = (l.ink ≤ length l.bytes) × (first_ink l.bytes l.ink ≡ first_ink l.bytes l.at)

abbrev pub decreases-loop-ink : goal.decreases-loop-ink
decreases-loop-ink l = length l.bytes - l.ink
