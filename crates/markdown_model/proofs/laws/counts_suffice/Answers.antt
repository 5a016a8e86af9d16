use Rattle.markdown_model.proofs.CountsSuffice.{counts_suffice}
use Rattle.markdown_model.proofs.laws.counts_suffice.Goals as goal

pub returns : goal.returns
returns c = counts_suffice
