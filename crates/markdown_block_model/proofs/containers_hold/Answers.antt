use Rattle.markdown_block_model.proofs.ContainersHold.{containers_hold}
use Rattle.markdown_block_model.proofs.containers_hold.Goals as goal

pub returns : goal.returns
returns c = containers_hold
