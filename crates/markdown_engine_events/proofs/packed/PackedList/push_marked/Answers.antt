use Rattle.markdown_engine_events.proofs.MarkLemmas.{view-marked}
use Rattle.markdown_engine_events.proofs.packed.PackedList.push_marked.Goals as goal

pub returns-clause-added : goal.returns-clause-added
returns-clause-added g c = λ fits. view-marked _ _ _ _ _ _ c.self.view_is (c.pack_marks.ensures _ c.in-Some.ensures) c.in_ok-extend_from_slice.ensures.ok
