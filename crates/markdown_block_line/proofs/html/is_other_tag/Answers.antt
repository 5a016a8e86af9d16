use Rattle.std.proofs.Common.{◌∙◌, ap, sym, drop, not}
use Rattle.markdown_block_line.proofs.RestValues.{rest-values}
use Rattle.markdown_block_line.proofs.HtmlBegins.{other-none, other-not, other-is}
use Rattle.markdown_block_line.proofs.html.is_other_tag.Goals as goal

pub returns-in_default : goal.returns-in_default
returns-in_default c = λ cs h. sym (other-none cs (c.in_default.ensures.read cs h))

pub returns-then-is_blank_line : goal.returns-then-is_blank_line
returns-then-is_blank_line c = λ cs h. ap not (c.has_raw_name.ensures (drop 1 cs) (rest-values (1) cs c.args.line.now h)) ∙ sym (other-is cs c.in-Some.len (c.in-Some.ensures.read cs h) (sym (c.is_blank_line.ensures (drop c.in-Some.len cs) (rest-values (c.in-Some.len) cs c.args.line.now h)) ∙ c.if-is_blank_line.true))

pub returns-else-is_blank_line : goal.returns-else-is_blank_line
returns-else-is_blank_line c = λ cs h. c.if-is_blank_line.false ∙ sym (other-not cs c.in-Some.len (c.in-Some.ensures.read cs h) (sym (c.is_blank_line.ensures (drop c.in-Some.len cs) (rest-values (c.in-Some.len) cs c.args.line.now h)) ∙ c.if-is_blank_line.false))
