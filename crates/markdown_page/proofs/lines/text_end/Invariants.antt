use Rattle.std.proofs.Common.{◌≡◌, ◌≤◌, ◌<◌, ◌-◌, ℕ, length, get_or, false}
use Rattle.markdown_content.specs.Codes.{is_line_ending_byte}
use Rattle.markdown_page.proofs.lines.text_end.Given as goal

abbrev pub invariant-loop-to : goal.invariant-loop-to
invariant-loop-to l = record {
  low : l.from ≤ l.to;
  high : l.to ≤ length l.bytes;
  before : l.from < l.to → l.to ≤ l.stop;
  plain : (i : ℕ) → l.from ≤ i → i < l.to → is_line_ending_byte (get_or l.bytes i 0) ≡ false;
}

abbrev pub decreases-loop-to : goal.decreases-loop-to
decreases-loop-to l = l.stop - l.to
