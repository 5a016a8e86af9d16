use Rattle.markdown_block_definitions.proofs.DefinitionReads.{ends-titled, ends-open, ends-bare}
use Rattle.markdown_block_definitions.proofs.definition.ending_at.Goals as goal

pub returns-in-Some-clause-read : goal.returns-in-Some-clause-read
returns-in-Some-clause-read c = λ cs h. ends-titled cs _ (c.in-Some.ensures.read cs h)

pub returns-in_default-line_end_len-clause-read : goal.returns-in_default-line_end_len-clause-read
returns-in_default-line_end_len-clause-read c = λ cs h. ends-open cs (c.in_default.ensures.read cs h) (c.in_default-line_end_len.ensures.read cs h)

pub returns-clause-read : goal.returns-clause-read
returns-clause-read c = λ cs h. ends-bare cs (c.in_default.ensures.read cs h) c.in-Some-line_end_len.len (c.in-Some-line_end_len.ensures.read cs h)
