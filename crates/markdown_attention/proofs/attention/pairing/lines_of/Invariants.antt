use Rattle.std.proofs.Common.{◌≡◌, ℕ, ◌+◌, ◌<◌, ◌≤◌, length, get_or}
use Rattle.markdown_attention.specs.NumberedPairs.{row_of, run_at}
use Rattle.markdown_attention.specs.OpenRuns.{AreLines}
use Rattle.markdown_attention.proofs.attention.pairing.lines_of.Given as goal

abbrev pub invariant-loop-index : goal.invariant-loop-index
invariant-loop-index l = record {
  are : AreLines l.lines.of_rows l.lines.count;
  same : length l.lines.of_rows ≡ l.fn.runs.texts + 1;
  count : l.lines.count ≤ l.index;
  some : (r : ℕ) → r < l.index → 0 < get_or l.lines.of_rows (row_of (run_at l.fn.runs.list r).text) 0;
}
