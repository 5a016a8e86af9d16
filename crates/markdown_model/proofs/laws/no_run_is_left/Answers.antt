use Rattle.markdown_model.proofs.NoRunIsLeft.{no_run_is_left}
use Rattle.markdown_model.proofs.laws.no_run_is_left.Goals as goal

pub returns : goal.returns
returns c = no_run_is_left
