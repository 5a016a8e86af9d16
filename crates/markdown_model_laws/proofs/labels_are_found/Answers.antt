use Rattle.markdown_model_laws.proofs.LinkTextsFound.{labels_are_found}
use Rattle.markdown_model_laws.proofs.labels_are_found.Goals as goal

pub returns : goal.returns
returns c = labels_are_found
