use Rattle.markdown_block_model.proofs.LeavesHaveAllCodes.{leaves_have_all_codes}
use Rattle.markdown_block_model.proofs.leaves_have_all_codes.Goals as goal

pub returns : goal.returns
returns c = leaves_have_all_codes
