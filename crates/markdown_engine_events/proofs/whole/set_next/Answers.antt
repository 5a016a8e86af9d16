use Rattle.std.proofs.Common.{◌∙◌}
use Rattle.markdown_engine_events.proofs.EventChainLemmas.{set-changed}
use Rattle.markdown_engine_events.proofs.whole.set_next.Goals as goal

pub returns : goal.returns
returns c = c.put.ensures ∙ set-changed _ _ _ _ _ c.at.ensures c.with_next-event.ensures
