use Rattle.std.proofs.Common.{◌∙◌, sym}
use Rattle.markdown_block_model.specs.HtmlStarts.{raw_tags}
use Rattle.markdown_block_line.proofs.WordReadings.{named-is}
use Rattle.markdown_block_line.proofs.html.is_raw_tag.Goals as goal

pub returns : goal.returns
returns c = λ cs h. c.one_is_word.ensures ∙ sym (named-is raw_tags cs c.args.name.now h)
