use Rattle.std.proofs.Common.{arith}
use Rattle.markdown_notes.proofs.RunIndexLemmas.{answered}
use Rattle.markdown_notes.proofs.run_index.RunIndex.rules_out.Goals as goal

pub returns-in-Ok : goal.returns-in-Ok
returns-in-Ok c = grind (arith, answered)

pub returns-in-Err : goal.returns-in-Err
returns-in-Err c = grind (arith, answered)
