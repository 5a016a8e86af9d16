use Rattle.markdown_engine_events.proofs.EventViewLemmas.{noted-push, view-push}
use Rattle.markdown_engine_events.proofs.events.Events.push.Goals as goal

pub invariant_of-self-2 : goal.invariant_of-self-2
invariant_of-self-2 c =
    noted-push c.self.inside.chains c.self.inside.items _ _ c.args.event c.self.view_is c.self.invariant c.requires c.in_ok-push.ensures.ok

pub returns-clause-ok : goal.returns-clause-ok
returns-clause-ok c = view-push c.self.inside.items _ _ c.args.event c.self.view_is c.requires c.in_ok-push.ensures.ok
