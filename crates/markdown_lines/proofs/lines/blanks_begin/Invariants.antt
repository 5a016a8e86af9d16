use Rattle.std.proofs.Common.{◌≡◌, ◌-◌, ◌≤◌, length, take}
use Rattle.std.specs.List.{suffix_len}
use Rattle.markdown_lines.specs.PiecesOfLines.{is_blank_byte}
use Rattle.markdown_lines.proofs.lines.blanks_begin.Given as goal

abbrev pub invariant-loop-end : goal.invariant-loop-end
invariant-loop-end l =
    (l.end ≤ length l.bytes) × (l.end - suffix_len is_blank_byte (take l.end l.bytes) ≡ l.stop - suffix_len is_blank_byte (take l.stop l.bytes))

abbrev pub decreases-loop-end : goal.decreases-loop-end
decreases-loop-end l = l.end
