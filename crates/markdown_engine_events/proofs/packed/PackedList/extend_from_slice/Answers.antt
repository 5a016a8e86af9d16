use Rattle.markdown_engine_events.proofs.PackedLemmas.{view-extended}
use Rattle.markdown_engine_events.proofs.packed.PackedList.extend_from_slice.Goals as goal

pub returns-clause-added : goal.returns-clause-added
returns-clause-added c = λ fits. view-extended _ _ _ _ _ _ c.self.view_is c.events.view_is c.requires c.in_ok-extend_from_slice.ensures.ok
