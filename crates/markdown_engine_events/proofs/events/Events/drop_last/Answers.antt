use Rattle.std.proofs.Common.{◌∙◌, sym}
use Rattle.markdown_engine_events.proofs.EventViewLemmas.{filled-of, view-popped, view-dropped, noted-popped, noted-dropped, dropped-within}
use Rattle.markdown_engine_events.proofs.events.Events.drop_last.Goals as goal

pub set_next-requires-clause-index : goal.set_next-requires-clause-index
set_next-requires-clause-index c =
    dropped-within c.self.inside.items _ c.in-Some.event _ (filled-of _ _ c.self.invariant) c.in-Some.ensures.cases (sym c.previous_of.ensures ∙ c.in-Some-previous_of.is)

pub invariant_of-self-in-Some-previous_of : goal.invariant_of-self-in-Some-previous_of
invariant_of-self-in-Some-previous_of c =
    noted-dropped c.self.inside.chains c.self.inside.items _ _ c.in-Some.event _ c.self.invariant c.in-Some.ensures.cases (sym c.previous_of.ensures ∙ c.in-Some-previous_of.is) c.set_next.ensures

pub invariant_of-self-in_default-previous_of : goal.invariant_of-self-in_default-previous_of
invariant_of-self-in_default-previous_of c =
    noted-popped c.self.inside.chains c.self.inside.items _ c.in-Some.event c.self.invariant c.in-Some.ensures.cases (sym c.previous_of.ensures ∙ c.in_default-previous_of.is)

pub returns-in-Some-previous_of : goal.returns-in-Some-previous_of
returns-in-Some-previous_of c =
    view-dropped c.self.inside.items _ _ _ c.in-Some.event _ _ c.self.view_is c.in-Some.ensures.cases c.set_next.ensures

pub returns-in_default-previous_of : goal.returns-in_default-previous_of
returns-in_default-previous_of c =
    view-popped c.self.inside.items _ _ c.in-Some.event c.self.view_is c.in-Some.ensures.cases
