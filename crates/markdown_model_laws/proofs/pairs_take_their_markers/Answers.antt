use Rattle.markdown_model_laws.proofs.PairGroupsOfText.{pairs_take_their_markers}
use Rattle.markdown_model_laws.proofs.pairs_take_their_markers.Goals as goal

pub returns : goal.returns
returns c = pairs_take_their_markers
