use Rattle.markdown_block_model.proofs.MarkedLines.{items_hold}
use Rattle.markdown_block_model.proofs.items_hold.Goals as goal

pub returns : goal.returns
returns c = items_hold
