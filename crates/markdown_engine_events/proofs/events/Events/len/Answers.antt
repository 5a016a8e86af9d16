use Rattle.std.proofs.Common.{◌∙◌}
use Rattle.markdown_engine_events.proofs.EventViewLemmas.{view-length}
use Rattle.markdown_engine_events.proofs.events.Events.len.Goals as goal

pub returns : goal.returns
returns c = c.len.ensures ∙ view-length _ _ c.self.view_is
