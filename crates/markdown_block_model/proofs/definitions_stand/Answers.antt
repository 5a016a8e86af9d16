use Rattle.markdown_block_model.proofs.DefinitionsStand.{definitions_stand}
use Rattle.markdown_block_model.proofs.definitions_stand.Goals as goal

pub returns : goal.returns
returns c = definitions_stand
