use Rattle.markdown_run.proofs.StepsPassCodes.{steps_pass_codes}
use Rattle.markdown_run.proofs.laws.steps_pass_codes.Goals as goal

pub returns : goal.returns
returns c = steps_pass_codes
