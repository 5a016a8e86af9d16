use Rattle.markdown_block_model.proofs.BeginsAlone.{lines_stand_alone}
use Rattle.markdown_block_model.proofs.lines_stand_alone.Goals as goal

pub returns : goal.returns
returns c = lines_stand_alone
