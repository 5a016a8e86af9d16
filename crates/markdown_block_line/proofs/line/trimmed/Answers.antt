use Rattle.markdown_block_line.proofs.RestValues.{trimmed-values}
use Rattle.markdown_block_line.proofs.line.trimmed.Goals as goal

pub returns : goal.returns
returns c = λ cs h. trimmed-values cs c.args.line.now c.indent.result h (c.indent.ensures.count cs h)
