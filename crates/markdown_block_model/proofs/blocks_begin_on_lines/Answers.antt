use Rattle.markdown_block_model.proofs.BlocksBeginOnLines.{blocks_begin_on_lines}
use Rattle.markdown_block_model.proofs.blocks_begin_on_lines.Goals as goal

pub returns : goal.returns
returns c = blocks_begin_on_lines
