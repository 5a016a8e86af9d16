use Rattle.std.proofs.Common.{◌≤◌, ◌-◌}
use Rattle.markdown_content.specs.PlainBytes.{ArePlain}
use Rattle.markdown_content.proofs.cursor.words_end.Given as goal

abbrev pub invariant-loop-index : goal.invariant-loop-index
invariant-loop-index l = record {
  from : l.from ≤ l.index;
  to : l.index ≤ l.to;
  plain : ArePlain l.stops l.bytes l.from l.index;
}

abbrev pub decreases-loop-index : goal.decreases-loop-index
decreases-loop-index l = l.to - l.index
