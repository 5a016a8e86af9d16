use Rattle.markdown_block_definitions.proofs.DefinitionReads.{gap-some, gap-nothing}
use Rattle.markdown_block_definitions.proofs.definition.optional_gap_len.Goals as goal

pub returns-in-Some-clause-read : goal.returns-in-Some-clause-read
returns-in-Some-clause-read c = λ cs h. gap-some cs _ (c.in-Some.ensures.read cs h)

pub returns-in-None-clause-read : goal.returns-in-None-clause-read
returns-in-None-clause-read c = λ cs h. gap-nothing cs (c.in-None.ensures.read cs h)
