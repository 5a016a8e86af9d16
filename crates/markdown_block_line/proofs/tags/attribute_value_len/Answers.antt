use Rattle.std.proofs.Common.{true}
use Rattle.markdown_model.specs.HtmlText.{attribute_value, unquoted_value}
use Rattle.markdown_block_line.proofs.TagReadings.{value-double, value-single, value-same, reads-same}
use Rattle.markdown_block_line.proofs.tags.attribute_value_len.Goals as goal

pub returns-in-Some-clause-read : goal.returns-in-Some-clause-read
returns-in-Some-clause-read c = λ cs h. value-double cs _ (c.in-Some.ensures.read cs h)

pub returns-in-Some-quoted_len-clause-read : goal.returns-in-Some-quoted_len-clause-read
returns-in-Some-quoted_len-clause-read c = λ cs h. value-single cs _ (c.in_default.ensures.read cs h) (c.in-Some-quoted_len.ensures.read cs h)

pub returns-clause-read : goal.returns-clause-read
returns-clause-read c = λ cs h. reads-same (attribute_value true) (unquoted_value true) cs c.unquoted_len.result (value-same cs (c.in_default.ensures.read cs h) (c.in_default-quoted_len.ensures.read cs h)) (c.unquoted_len.ensures.read cs h)
