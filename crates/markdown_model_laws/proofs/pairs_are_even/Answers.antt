use Rattle.markdown_model_laws.proofs.PairGroupsOfText.{pairs_are_even}
use Rattle.markdown_model_laws.proofs.pairs_are_even.Goals as goal

pub returns : goal.returns
returns c = pairs_are_even
