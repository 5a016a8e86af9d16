use Rattle.markdown_block_model.proofs.MarkedLines.{quotes_hold}
use Rattle.markdown_block_model.proofs.quotes_hold.Goals as goal

pub returns : goal.returns
returns c = quotes_hold
