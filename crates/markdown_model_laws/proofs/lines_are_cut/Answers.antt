use Rattle.markdown_model_laws.proofs.LinesCutLaws.{lines_are_cut}
use Rattle.markdown_model_laws.proofs.lines_are_cut.Goals as goal

pub returns : goal.returns
returns c = lines_are_cut
