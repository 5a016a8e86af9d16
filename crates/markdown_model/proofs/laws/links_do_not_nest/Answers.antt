use Rattle.markdown_model.proofs.LinksDoNotNest.{links_do_not_nest}
use Rattle.markdown_model.proofs.laws.links_do_not_nest.Goals as goal

pub returns : goal.returns
returns c = links_do_not_nest
