use Rattle.markdown_block_line.proofs.RestValues.{trimmed-take}
use Rattle.markdown_block_line.proofs.line.trimmed_len.Goals as goal

pub returns-clause-same : goal.returns-clause-same
returns-clause-same c = λ cs h. trimmed-take cs c.args.line.now c.len_before.result h c.len_before.ensures.same
