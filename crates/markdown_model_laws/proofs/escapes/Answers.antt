use Rattle.markdown_model_laws.proofs.EscapeLaws.{escapes}
use Rattle.markdown_model_laws.proofs.escapes.Goals as goal

pub returns : goal.returns
returns c = escapes
