use Rattle.std.proofs.Common.{ap, ◌∙◌}
use Rattle.markdown_engine_events.specs.EventChains.{chained}
use Rattle.markdown_run.proofs.run.found_in.Goals as goal

pub returns-clause-events : goal.returns-clause-events
returns-clause-events c = c.into_list.ensures ∙ ap chained c.replace-events.ensures.value
