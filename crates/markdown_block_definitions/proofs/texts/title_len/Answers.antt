use Rattle.markdown_block_definitions.proofs.TextTrees.{double-title, single-title, other-title}
use Rattle.markdown_block_definitions.proofs.texts.title_len.Goals as goal

pub returns-in-Some-clause-read : goal.returns-in-Some-clause-read
returns-in-Some-clause-read c = λ cs h. double-title cs _ (c.in-Some.ensures.read cs h)

pub returns-in-Some-title_between_len-clause-read : goal.returns-in-Some-title_between_len-clause-read
returns-in-Some-title_between_len-clause-read c = λ cs h. single-title cs _ (c.in_default.ensures.read cs h) (c.in-Some-title_between_len.ensures.read cs h)

pub returns-clause-read : goal.returns-clause-read
returns-clause-read c = λ cs h. other-title cs _ (c.in_default.ensures.read cs h) (c.in_default-title_between_len.ensures.read cs h) (c.title_between_len-3.ensures.read cs h)
