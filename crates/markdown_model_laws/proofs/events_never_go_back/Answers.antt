use Rattle.markdown_model_laws.proofs.EventsNeverGoBack.{events_never_go_back}
use Rattle.markdown_model_laws.proofs.events_never_go_back.Goals as goal

pub returns : goal.returns
returns c = events_never_go_back
