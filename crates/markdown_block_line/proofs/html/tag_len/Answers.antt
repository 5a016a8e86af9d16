use Rattle.std.proofs.Common.{true}
use Rattle.markdown_model.specs.Grammar.{either}
use Rattle.markdown_model.specs.HtmlText.{open_tag, closing_tag}
use Rattle.markdown_model.proofs.GrammarSteps.{either-some, either-second}
use Rattle.markdown_block_line.proofs.TagReadings.{reads-same}
use Rattle.markdown_block_line.proofs.html.tag_len.Goals as goal

pub returns-in-Some-clause-read : goal.returns-in-Some-clause-read
returns-in-Some-clause-read c = λ cs h. either-some (open_tag true) closing_tag cs _ (c.in-Some.ensures.read cs h)

pub returns-clause-read : goal.returns-clause-read
returns-clause-read c = λ cs h. reads-same (either (open_tag true) closing_tag) closing_tag cs c.closing_tag_len.result (either-second (open_tag true) closing_tag cs (c.in_default.ensures.read cs h)) (c.closing_tag_len.ensures.read cs h)
