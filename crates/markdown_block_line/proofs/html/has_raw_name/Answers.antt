use Rattle.std.proofs.Common.{◌∙◌, ap, sym, take, true}
use Rattle.markdown_block_model.specs.HtmlStarts.{raw_tags, is_tag_among}
use Rattle.markdown_block_line.proofs.RestValues.{front-values}
use Rattle.markdown_block_line.proofs.HtmlBegins.{among-any}
use Rattle.markdown_block_line.proofs.html.has_raw_name.Goals as goal

pub returns-in_default : goal.returns-in_default
returns-in_default c = λ cs h. sym (ap (is_tag_among raw_tags (λ rest. true)) (c.in_default.ensures.read cs h))

pub returns : goal.returns
returns c = λ cs h. c.is_raw_tag.ensures (take c.in-Some.len cs) (front-values c.in-Some.len cs c.args.line.now h) ∙ sym (among-any raw_tags cs c.in-Some.len (c.in-Some.ensures.read cs h))
