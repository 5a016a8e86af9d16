use Rattle.markdown_engine_events.proofs.PackedLemmas.{view-lent}
use Rattle.markdown_engine_events.proofs.packed.PackedList.slice.Goals as goal

pub returns : goal.returns
returns c = view-lent _ _ _ _ _ c.self.view_is c.as_slice.ensures
