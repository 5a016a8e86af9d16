use Rattle.std.proofs.Common.{◌∙◌, sym}
use Rattle.markdown_block_line.specs.LineBlocks.{fence_of}
use Rattle.markdown_block_line.proofs.RestLeaves.{fenced-open}
use Rattle.markdown_block_line.proofs.leaves.fenced_line.Goals as goal

pub returns-clause-next : goal.returns-clause-next
returns-clause-next c = λ cs info ls h.
    fenced-open (fence_of c.args.fence) info ls cs c.indent_to.result (sym (c.is_closing.ensures cs h) ∙ c.if-is_closing.false) (c.indent_to.ensures.count cs h)
