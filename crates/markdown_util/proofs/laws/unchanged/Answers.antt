use Rattle.markdown_util.proofs.ParseLemmas.{parsed-unchanged}
use Rattle.markdown_util.proofs.laws.unchanged.Goals as goal

pub returns : goal.returns
returns c = parsed-unchanged
