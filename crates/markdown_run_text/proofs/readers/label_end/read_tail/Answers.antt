use Rattle.std.proofs.Common.{arith}
use Rattle.std.proofs.lemmas.Result.{on_ok_weaker}
use Rattle.markdown_model.proofs.GrammarSteps.{if-false, if-true}
use Rattle.markdown_run_text.proofs.readers.label_end.read_tail.Goals as goal
use Rattle.markdown_run_text.proofs.readers.label_end.read_tail.Goals.{then-not-is_same+in_ok-read_title, else-not-is_same}

pub returns-clause-ok : goal.returns-clause-ok
returns-clause-ok c = grind (arith, if-false, if-true, on_ok_weaker, c.current.ensures, c.is_same.ensures, c.read_marker.ensures.ok)
