use Rattle.markdown_model_laws.proofs.LinkTextsFound.{titles_are_found}
use Rattle.markdown_model_laws.proofs.titles_are_found.Goals as goal

pub returns : goal.returns
returns c = titles_are_found
