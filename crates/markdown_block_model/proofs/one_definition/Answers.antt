use Rattle.markdown_block_model.proofs.OneDefinition.{one_definition}
use Rattle.markdown_block_model.proofs.one_definition.Goals as goal

pub returns : goal.returns
returns c = one_definition
