use Rattle.markdown_block_model.proofs.SiblingsStand.{siblings_stand}
use Rattle.markdown_block_model.proofs.siblings_stand.Goals as goal

pub returns : goal.returns
returns c = siblings_stand
