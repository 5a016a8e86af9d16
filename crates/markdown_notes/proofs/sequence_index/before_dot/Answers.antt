use Rattle.std.proofs.Common.{arith}
use Rattle.std.proofs.lemmas.Bool.{and_from}
use Rattle.markdown_notes.proofs.SequenceIndexLemmas.{next-is, some-passed}
use Rattle.markdown_notes.proofs.sequence_index.before_dot.Goals as goal

pub overflow_sub-result : goal.overflow_sub-result
overflow_sub-result c = grind (arith, some-passed)

pub returns-then-is_behind_w : goal.returns-then-is_behind_w
returns-then-is_behind_w c = grind (arith, and_from, next-is)
