use Rattle.markdown_model.proofs.LinksAreNotMailed.{links_are_not_mailed}
use Rattle.markdown_model.proofs.laws.links_are_not_mailed.Goals as goal

pub returns : goal.returns
returns c = links_are_not_mailed
