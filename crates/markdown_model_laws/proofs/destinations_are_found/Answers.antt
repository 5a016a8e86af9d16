use Rattle.markdown_model_laws.proofs.DestinationsFound.{destinations_are_found}
use Rattle.markdown_model_laws.proofs.destinations_are_found.Goals as goal

pub returns : goal.returns
returns c = destinations_are_found
