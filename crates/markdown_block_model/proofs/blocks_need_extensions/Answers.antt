use Rattle.markdown_block_model.proofs.NeededExtensions.{blocks_need_extensions}
use Rattle.markdown_block_model.proofs.blocks_need_extensions.Goals as goal

pub returns : goal.returns
returns c = blocks_need_extensions
