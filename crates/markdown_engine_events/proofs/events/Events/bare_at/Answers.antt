use Rattle.std.proofs.Common.{arith, ◌∙◌, ap, sym, subst, List}
use Rattle.markdown_engine_events.specs.EventChains.{bare, IsLinked}
use Rattle.markdown_event.specs.declared.event.Event.{Event}
use Rattle.markdown_engine_events.proofs.EventChainLemmas.{with_next-with_next}
use Rattle.markdown_engine_events.proofs.EventViewLemmas.{view-length, bare-read}
use Rattle.markdown_engine_events.proofs.events.Events.bare_at.Goals as goal

pub at-requires : goal.at-requires
at-requires c = omega (arith, view-length _ _ c.self.view_is)

pub returns-clause-event : goal.returns-clause-event
returns-clause-event c = bare-read _ _ _ _ _ c.self.view_is c.at.ensures c.with_next.ensures

pub returns-clause-bare : goal.returns-clause-bare
returns-clause-bare c = ap bare c.with_next.ensures ∙ with_next-with_next _ _ _ ∙ sym c.with_next.ensures

pub returns-clause-chains : goal.returns-clause-chains
returns-clause-chains c =
    let P : List Event → Type 0 = λ es. IsLinked es in subst P c.self.view_is c.self.invariant.linked
