use Rattle.markdown_model.proofs.OneTree.{one_end}
use Rattle.markdown_model.proofs.laws.one_end.Goals as goal

pub returns : goal.returns
returns c = one_end
