use Rattle.std.proofs.Common.{◌≡◌, ◌≤◌, true, length}
use Rattle.markdown_content.specs.Content.{has_no_blank_line}
use Rattle.markdown_content.specs.Place.{ahead_at}
use Rattle.markdown_content.proofs.cursor.Cursor.pass_filled_lines.Given as goal

abbrev pub invariant-loop-self : goal.invariant-loop-self
invariant-loop-self l = record {
  lines : has_no_blank_line true (ahead_at l.self) ≡ has_no_blank_line true (ahead_at l.initial.self);
  left : length (ahead_at l.self) ≤ length (ahead_at l.initial.self);
}

abbrev pub decreases-loop-self : goal.decreases-loop-self
decreases-loop-self l = length (ahead_at l.self)
