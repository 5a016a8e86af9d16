use Rattle.markdown_model.proofs.OneTree.{one_pair_list}
use Rattle.markdown_model.proofs.laws.one_pair_list.Goals as goal

pub returns : goal.returns
returns c = one_pair_list
