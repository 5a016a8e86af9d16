use Rattle.markdown_model.proofs.OneTree.{leaves_cover}
use Rattle.markdown_model.proofs.laws.leaves_cover.Goals as goal

pub returns : goal.returns
returns c = leaves_cover
