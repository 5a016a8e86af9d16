use Rattle.std.proofs.Common.{arith}
use Rattle.markdown_run_text.proofs.InnerPassed.{inner-here}
use Rattle.markdown_run_text.proofs.readers.partial_data.is_inner_underscore.Goals as goal

pub returns-then-is_at_underscore : goal.returns-then-is_at_underscore
returns-then-is_at_underscore c = grind (arith, inner-here, c.is_between_alphanumerics.ensures, c.if-is_at_underscore.true, c.is_at_underscore.ensures)

pub returns-else-is_at_underscore : goal.returns-else-is_at_underscore
returns-else-is_at_underscore c = grind (arith, inner-here, c.if-is_at_underscore.false, c.is_at_underscore.ensures)
