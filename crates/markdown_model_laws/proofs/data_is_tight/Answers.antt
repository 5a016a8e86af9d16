use Rattle.markdown_model_laws.proofs.DataIsTightLaws.{data_is_tight}
use Rattle.markdown_model_laws.proofs.data_is_tight.Goals as goal

pub returns : goal.returns
returns c = data_is_tight
