use Rattle.markdown_model_laws.proofs.PairGroupsOfText.{each_pair_is_a_group}
use Rattle.markdown_model_laws.proofs.each_pair_is_a_group.Goals as goal

pub returns : goal.returns
returns c = each_pair_is_a_group
