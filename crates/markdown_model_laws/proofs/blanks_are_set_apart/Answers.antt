use Rattle.markdown_model_laws.proofs.BlanksSetApart.{blanks_are_set_apart}
use Rattle.markdown_model_laws.proofs.blanks_are_set_apart.Goals as goal

pub returns : goal.returns
returns c = blanks_are_set_apart
