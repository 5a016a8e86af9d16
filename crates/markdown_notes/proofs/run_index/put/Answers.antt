-- What is noted goes to its place.
use Rattle.std.proofs.Common.{arith}
use Rattle.markdown_notes.proofs.RunIndexOrder.{put-ordered}
use Rattle.markdown_notes.proofs.run_index.put.Goals as goal

pub returns-in-Ok-clause-order : goal.returns-in-Ok-clause-order
returns-in-Ok-clause-order c = grind (arith, put-ordered)

pub returns-in_ok-insert-in-Err-clause-order : goal.returns-in_ok-insert-in-Err-clause-order
returns-in_ok-insert-in-Err-clause-order c = grind (arith, put-ordered)
