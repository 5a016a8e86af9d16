use Rattle.markdown_model_laws.proofs.ChainEvents.{chains-are-unbroken}
use Rattle.markdown_model_laws.proofs.chains_are_unbroken.Goals as goal

pub returns : goal.returns
returns c = chains-are-unbroken
