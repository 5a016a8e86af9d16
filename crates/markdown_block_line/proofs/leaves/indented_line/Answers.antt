use Rattle.std.proofs.Common.{◌∙◌, sym}
use Rattle.markdown_block_line.proofs.RestLeaves.{code-deep, code-blank}
use Rattle.markdown_block_line.proofs.leaves.indented_line.Goals as goal
use Rattle.markdown_block_line.proofs.leaves.indented_line.Goals.{else-count-lt4-via-then-count-lt4+else-not-is_blank_line, else-count-lt4-via-else-count-lt4}

pub returns-clause-next : goal.returns-clause-next
returns-clause-next c = λ cs ls h.
    elim c.else-count-lt4.branch [
      | else-count-lt4-via-then-count-lt4+else-not-is_blank_line w ↦ code-blank ls cs c.indent_to-count.result (c.indent_to-count.ensures.count cs h) w.if-count-lt4.true (sym (w.is_blank_line.ensures cs h) ∙ w.if-not-is_blank_line.false)
      | else-count-lt4-via-else-count-lt4 w ↦ code-deep ls cs c.indent_to-count.result (c.indent_to-count.ensures.count cs h) w.if-count-lt4.false
    ]
