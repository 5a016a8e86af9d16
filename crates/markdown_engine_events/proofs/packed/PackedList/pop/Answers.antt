use Rattle.markdown_engine_events.proofs.PackedLemmas.{view-popped, view-rest}
use Rattle.markdown_engine_events.proofs.packed.PackedList.pop.Goals as goal

pub returns-clause-cases : goal.returns-clause-cases
returns-clause-cases c = view-popped _ _ _ _ _ _ c.self.view_is c.in_ok-item.ensures.cases c.len.ensures c.unpack.ensures

pub returns-clause-rest : goal.returns-clause-rest
returns-clause-rest c = view-rest _ _ _ c.self.view_is c.in_ok-item.ensures.rest
