use Rattle.std.proofs.Common.{◌∙◌, ap, sym, take, drop}
use Rattle.markdown_block_model.specs.HtmlStarts.{block_tags, ends_block_tag, is_tag_among}
use Rattle.markdown_block_line.proofs.RestValues.{rest-values, front-values}
use Rattle.markdown_block_line.proofs.HtmlBegins.{among-not, among-ends}
use Rattle.markdown_block_line.proofs.html.begins_block_name.Goals as goal

pub returns-in_default : goal.returns-in_default
returns-in_default c = λ cs h. sym (ap (is_tag_among block_tags ends_block_tag) (c.in_default.ensures.read cs h))

pub returns-then-is_block_tag : goal.returns-then-is_block_tag
returns-then-is_block_tag c = λ cs h. c.ends_block_tag.ensures (drop c.in-Some.len cs) (rest-values (c.in-Some.len) cs c.args.line.now h) ∙ sym (among-ends block_tags ends_block_tag cs c.in-Some.len (c.in-Some.ensures.read cs h) (sym (c.is_block_tag.ensures (take c.in-Some.len cs) (front-values c.in-Some.len cs c.args.line.now h)) ∙ c.if-is_block_tag.true))

pub returns-else-is_block_tag : goal.returns-else-is_block_tag
returns-else-is_block_tag c = λ cs h. c.if-is_block_tag.false ∙ sym (among-not block_tags ends_block_tag cs c.in-Some.len (c.in-Some.ensures.read cs h) (sym (c.is_block_tag.ensures (take c.in-Some.len cs) (front-values c.in-Some.len cs c.args.line.now h)) ∙ c.if-is_block_tag.false))
