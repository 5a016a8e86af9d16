use Rattle.std.proofs.Common.{arith}
use Rattle.markdown_engine_events.proofs.EventViewLemmas.{filled-of, linked-within, linked-within-changed, noted-chain, view-linked, kept-linked}
use Rattle.markdown_engine_events.proofs.events.Events.connect.Goals as goal

pub set_next-requires-clause-index : goal.set_next-requires-clause-index
set_next-requires-clause-index c = linked-within c.self.inside.items _ _ c.self.view_is c.requires.from

pub set_previous-requires-clause-index : goal.set_previous-requires-clause-index
set_previous-requires-clause-index c =
    linked-within-changed c.self.inside.items _ _ _ _ _ c.self.view_is c.requires.to c.set_next.ensures

pub invariant_of-self : goal.invariant_of-self
invariant_of-self c =
    noted-chain _ (kept-linked c.self.inside.items _ _ _ _ _ c.self.view_is (filled-of _ _ c.self.invariant) (omega (arith, c.requires.near)) c.requires.from c.requires.to c.requires.first c.requires.last c.set_next.ensures c.set_previous.ensures)

pub returns : goal.returns
returns c = view-linked c.self.inside.items _ _ _ _ _ c.self.view_is c.set_next.ensures c.set_previous.ensures
