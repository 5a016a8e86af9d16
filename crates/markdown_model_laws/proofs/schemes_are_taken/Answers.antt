use Rattle.markdown_model_laws.proofs.EmailSchemesTaken.{schemes_are_taken}
use Rattle.markdown_model_laws.proofs.schemes_are_taken.Goals as goal

pub returns : goal.returns
returns c = schemes_are_taken
