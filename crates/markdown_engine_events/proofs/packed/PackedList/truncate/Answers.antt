use Rattle.markdown_engine_events.proofs.PackedLemmas.{view-truncated}
use Rattle.markdown_engine_events.proofs.packed.PackedList.truncate.Goals as goal

pub returns : goal.returns
returns c = view-truncated _ _ _ _ c.self.view_is c.truncate.ensures
