use Rattle.markdown_block_model.proofs.ContainersTakeACode.{steps_suffice}
use Rattle.markdown_block_model.proofs.steps_suffice.Goals as goal

pub returns : goal.returns
returns c = steps_suffice
