use Rattle.markdown_model_laws.proofs.ResourcesFound.{resources_are_found}
use Rattle.markdown_model_laws.proofs.resources_are_found.Goals as goal

pub returns : goal.returns
returns c = resources_are_found
