use Rattle.std.proofs.Common.{arith}
use Rattle.markdown_run_text.proofs.text.index_domains.Goals as goal

pub returns-in-Err : goal.returns-in-Err
returns-in-Err c = grind (arith, c.noted.ensures.same, c.noted.ensures.err)
