use Rattle.markdown_model_laws.proofs.AfterLabelFound.{what_follows_is_found}
use Rattle.markdown_model_laws.proofs.what_follows_is_found.Goals as goal

pub returns : goal.returns
returns c = what_follows_is_found
