use Rattle.markdown_block_line.proofs.RestValues.{skip-values}
use Rattle.markdown_block_line.proofs.line.skip.Goals as goal

pub returns : goal.returns
returns c = λ cs h. skip-values c.args.columns cs c.args.line.now c.indent_to.result h (c.indent_to.ensures.count cs h)
