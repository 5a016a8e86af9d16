use Rattle.std.proofs.Common.{refl}
use Rattle.markdown_block_examples.proofs.BlocksComputed.{blocks_computed}
use Rattle.markdown_block_examples.proofs.blocks_on_lines.Goals as goal

pub returns : goal.returns
unfolding blocks_computed
returns c = (refl, refl, refl, refl, refl, refl, refl, refl, refl, refl, refl, refl, refl)
