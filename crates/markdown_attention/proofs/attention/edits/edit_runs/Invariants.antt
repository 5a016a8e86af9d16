use Rattle.std.proofs.Common.{◌≡◌, take}
use Rattle.markdown_attention.specs.RunEdits.{edits_by}
use Rattle.markdown_attention.specs.PairSizes.{added_for, AreRest}
use Rattle.markdown_attention.proofs.attention.edits.edit_runs.Given as goal

-- the runs so far, and the pairs that are left
abbrev pub invariant-loop-run : goal.invariant-loop-run
invariant-loop-run l = record {
  edits : l.map ≡ edits_by (added_for l.events l.pairs l.backs) (take l.run-index l.runs);
  pairs : AreRest l.pairs l.run-index l.rest;
}
