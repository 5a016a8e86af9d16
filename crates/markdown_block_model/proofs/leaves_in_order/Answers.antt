use Rattle.markdown_block_model.proofs.LeavesInOrder.{leaves_in_order}
use Rattle.markdown_block_model.proofs.leaves_in_order.Goals as goal

pub returns : goal.returns
returns c = leaves_in_order
