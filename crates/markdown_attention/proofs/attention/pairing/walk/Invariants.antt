use Rattle.std.proofs.Common.{◌≡◌, ◌+◌, ◌-◌, ◌≤◌}
use Rattle.markdown_attention.specs.OpenRuns.{Passed}
use Rattle.markdown_attention.proofs.attention.pairing.walk.Given as goal

abbrev pub invariant-loop-run : goal.invariant-loop-run
invariant-loop-run l = record {
  same_list : l.runs.list ≡ l.fn.runs.list;
  same_turn : l.runs.turn ≡ l.fn.runs.turn;
  within : l.at ≤ l.fn.runs.turn;
  counted : l.runs.probes + l.at ≤ l.fn.runs.probes + l.fn.head;
  low : l.fn.runs.probes ≤ l.runs.probes;
  passed : Passed l.options l.fn.runs.list l.older l.mark l.fn.runs.turn l.fn.head (l.runs.probes - l.fn.runs.probes) l.at;
}

abbrev pub decreases-loop-run : goal.decreases-loop-run
decreases-loop-run l = l.at
