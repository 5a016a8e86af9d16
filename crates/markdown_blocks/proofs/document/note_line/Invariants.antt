use Rattle.std.proofs.Common.{◌≡◌, ◌≤◌, ◌-◌, ◌++◌, length, replicate}
use Rattle.markdown_blocks.proofs.document.note_line.Given as goal

abbrev pub invariant-loop-lines : goal.invariant-loop-lines
invariant-loop-lines l = record {
  noted : l.lines.items ≡ l.fn.lines.items ++ replicate (length l.lines.items - length l.fn.lines.items) l.number;
  from : length l.fn.lines.items ≤ length l.lines.items;
  to : length l.lines.items - length l.fn.lines.items ≤ l.count - length l.fn.lines.items;
}

abbrev pub decreases-loop-lines : goal.decreases-loop-lines
decreases-loop-lines l = l.count - length l.lines.items
