use Rattle.markdown_model_laws.proofs.LeafPieceLaws.{leaves-are-contents}
use Rattle.markdown_model_laws.proofs.leaves_are_contents.Goals as goal

pub returns : goal.returns
returns c = leaves-are-contents
