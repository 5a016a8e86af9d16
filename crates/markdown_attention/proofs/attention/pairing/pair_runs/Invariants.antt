use Rattle.std.proofs.Common.{◌≡◌, ◌+◌, ◌-◌, ◌*◌, length}
use Rattle.markdown_attention.specs.NumberedPairs.{markers_left}
use Rattle.markdown_attention.proofs.PairScanByLists.{Inv}
use Rattle.markdown_attention.proofs.TextLines.{line_in}
use Rattle.markdown_attention.proofs.attention.pairing.pair_runs.Given as goal

abbrev pub invariant-loop-closer : goal.invariant-loop-closer
invariant-loop-closer l = record {
  inv : Inv (line_in l.lines.of_rows l.lines.count) l.options l.fn.runs.list l.runs.list l.runs.turn l.pairs.items l.runs.probes l.heads l.older.items l.marks;
  heads_length : length l.heads ≡ l.lines.count * 3;
  marks_length : length l.marks ≡ l.lines.count * 18;
}

abbrev pub decreases-loop-closer : goal.decreases-loop-closer
decreases-loop-closer l = (length l.runs.list - l.runs.turn) + markers_left l.runs.list
