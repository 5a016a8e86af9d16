-- How many characters may still come.
use Rattle.markdown_label_names.proofs.LongLabels.{IsCounting}
use Rattle.markdown_label_names.proofs.label_text.is_too_long.Given as goal

abbrev pub invariant-loop-byte : goal.invariant-loop-byte
invariant-loop-byte l = IsCounting l.fn.kind l.text l.byte-index l.left l.indent l.returned
