use Rattle.std.proofs.Common.{arith}
use Rattle.markdown_run_text.proofs.PassedData.{plain-stretch}
use Rattle.markdown_run_text.proofs.readers.partial_data.pass_data.Goals as goal

pub returns-else-literals : goal.returns-else-literals
returns-else-literals c = grind (arith, plain-stretch, c.consume_stretch.ensures, c.markers.ensures, c.if-literals.false)
