use Rattle.markdown_notes.proofs.SequenceIndexLemmas.{IsPassing}
use Rattle.markdown_notes.proofs.sequence_index.stand_next.Given as goal

abbrev pub invariant-loop-byte : goal.invariant-loop-byte
invariant-loop-byte l = IsPassing l.bytes l.byte-index l.fn.cursor l.place
