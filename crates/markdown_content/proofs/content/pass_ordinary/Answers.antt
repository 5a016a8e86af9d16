use Rattle.std.proofs.Common.{arith}
use Rattle.markdown_content.proofs.NextPlace.{point_fits}
use Rattle.markdown_content.proofs.content.pass_ordinary.Goals as goal

pub overflow_add-result : goal.overflow_add-result
overflow_add-result c = grind (arith, point_fits)
