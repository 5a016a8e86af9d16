use Rattle.markdown_model_laws.proofs.MarkersHeldLaws.{each_marker_is_held}
use Rattle.markdown_model_laws.proofs.each_marker_is_held.Goals as goal

pub returns : goal.returns
returns c = each_marker_is_held
