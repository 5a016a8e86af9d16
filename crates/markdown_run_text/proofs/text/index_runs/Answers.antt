-- Without a mark of a span there is no run to be known.
use Rattle.std.proofs.Common.{arith}
use Rattle.markdown_engine.specs.Operations.{scratched}
use Rattle.markdown_run_text.proofs.RawTextRuledOut.{no-spans}
use Rattle.markdown_run_text.proofs.text.index_runs.Goals as goal

pub returns-then-rules_out-clause-ok : goal.returns-then-rules_out-clause-ok
unfolding scratched
returns-then-rules_out-clause-ok c = grind (arith, no-spans, c.without.ensures, c.new-marks.ensures, c.requires, c.rules_out.ensures, c.if-rules_out.true)

pub returns-in-Err : goal.returns-in-Err
returns-in-Err c = grind (arith, c.noted.ensures.same, c.noted.ensures.err)
