use Rattle.markdown_model.proofs.LabelsMatch.{labels_match}
use Rattle.markdown_model.proofs.laws.labels_match.Goals as goal

pub returns : goal.returns
returns c = labels_match
