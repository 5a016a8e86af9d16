use Rattle.markdown_model_laws.proofs.ReferenceLaws.{values-are-decodable}
use Rattle.markdown_model_laws.proofs.values_are_decodable.Goals as goal

pub returns : goal.returns
returns c = values-are-decodable
