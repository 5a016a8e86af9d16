use Rattle.markdown_model_laws.proofs.TreesFilledLaws.{trees_are_filled}
use Rattle.markdown_model_laws.proofs.trees_are_filled.Goals as goal

pub returns : goal.returns
returns c = trees_are_filled
