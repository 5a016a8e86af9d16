use Rattle.std.proofs.Common.{◌∙◌, sym, drop}
use Rattle.markdown_block_line.proofs.RestValues.{rest-values}
use Rattle.markdown_block_line.proofs.HtmlBegins.{declaration-none, declaration-is}
use Rattle.markdown_block_line.proofs.html.begins_declaration.Goals as goal

pub returns-then-next_in : goal.returns-then-next_in
returns-then-next_in c = λ cs h. sym (declaration-is cs c.next_in-then-next_in.result (sym (c.next_in.ensures.first cs h) ∙ c.if-next_in.true) (sym (c.next_in-then-next_in.ensures.first (drop 1 cs) (rest-values (1) cs c.args.line.now h))))

pub returns-else-next_in : goal.returns-else-next_in
returns-else-next_in c = λ cs h. c.if-next_in.false ∙ sym (declaration-none cs (sym (c.next_in.ensures.first cs h) ∙ c.if-next_in.false))
