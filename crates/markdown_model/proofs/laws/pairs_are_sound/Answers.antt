use Rattle.markdown_model.proofs.PairListFacts.{pairs_are_sound}
use Rattle.markdown_model.proofs.laws.pairs_are_sound.Goals as goal

pub returns : goal.returns
returns c = pairs_are_sound
