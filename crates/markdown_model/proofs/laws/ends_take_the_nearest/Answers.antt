use Rattle.markdown_model.proofs.EndsTakeTheNearest.{ends_take_the_nearest}
use Rattle.markdown_model.proofs.laws.ends_take_the_nearest.Goals as goal

pub returns : goal.returns
returns c = ends_take_the_nearest
