use Rattle.markdown_model.proofs.OneTree.{one_element_list}
use Rattle.markdown_model.proofs.laws.one_element_list.Goals as goal

pub returns : goal.returns
returns c = one_element_list
