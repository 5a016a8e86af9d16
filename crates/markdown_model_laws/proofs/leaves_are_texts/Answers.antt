use Rattle.markdown_model_laws.proofs.CharacterLaws.{leaves-are-texts}
use Rattle.markdown_model_laws.proofs.leaves_are_texts.Goals as goal

pub returns : goal.returns
returns c = leaves-are-texts
