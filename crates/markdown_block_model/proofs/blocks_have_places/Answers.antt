use Rattle.markdown_block_model.proofs.BlocksHavePlaces.{blocks_have_places}
use Rattle.markdown_block_model.proofs.blocks_have_places.Goals as goal

pub returns : goal.returns
returns c = blocks_have_places
