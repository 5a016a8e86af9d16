use Rattle.markdown_model.proofs.OneTree.{events_nest}
use Rattle.markdown_model.proofs.laws.events_nest.Goals as goal

pub returns : goal.returns
returns c = events_nest
