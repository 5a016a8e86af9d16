use Rattle.std.proofs.Common.{◌∙◌, sym, true}
use Rattle.markdown_block_line.proofs.RestContainers.{inside-deep, inside-by}
use Rattle.markdown_block_line.proofs.containers.rest_in_item.Goals as goal
use Rattle.markdown_block_line.proofs.containers.rest_in_item.Goals.{else-count-columns-via-then-count-columns+else-not-is_blank_line, else-count-columns-via-else-count-columns}

pub returns-clause-found : goal.returns-clause-found
returns-clause-found c = λ cs h.
    elim c.else-count-columns.branch [
      | else-count-columns-via-then-count-columns+else-not-is_blank_line w ↦ inside-by c.args.columns c.indent_to-count.result cs true (c.indent_to-count.ensures.count cs h) w.if-count-columns.true (sym (w.is_blank_line.ensures cs h) ∙ w.if-not-is_blank_line.false)
      | else-count-columns-via-else-count-columns w ↦ inside-deep c.args.columns c.indent_to-count.result cs (c.indent_to-count.ensures.count cs h) w.if-count-columns.false
    ]
