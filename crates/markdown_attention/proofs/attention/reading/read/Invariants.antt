use Rattle.std.proofs.Common.{◌≤◌, ◌-◌, length}
use Rattle.markdown_attention.proofs.RunsReadLemmas.{RunsSoFar}
use Rattle.markdown_attention.proofs.attention.reading.read.Given as goal

abbrev pub invariant-loop-index : goal.invariant-loop-index
invariant-loop-index l = record {
  within : l.index ≤ length l.events;
  reading : RunsSoFar l.options l.bytes l.cursor.codes l.events l.index l.list.items l.place;
}

abbrev pub decreases-loop-index : goal.decreases-loop-index
decreases-loop-index l = l.count - l.index
