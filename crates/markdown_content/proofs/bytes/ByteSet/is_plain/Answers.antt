use Rattle.std.proofs.Common.{arith}
use Rattle.markdown_content.proofs.ByteSetLemmas.{table-says}
use Rattle.markdown_content.proofs.bytes.ByteSet.is_plain.Goals as goal

pub returns : goal.returns
returns c = grind (arith, table-says)
