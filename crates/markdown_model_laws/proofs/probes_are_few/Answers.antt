use Rattle.markdown_model_laws.proofs.ProbeLaws.{probes_are_few}
use Rattle.markdown_model_laws.proofs.probes_are_few.Goals as goal

pub returns : goal.returns
returns c = probes_are_few
