use Rattle.std.proofs.Common.{refl}
use Rattle.markdown_engine_events.proofs.PackedLemmas.{view-part}
use Rattle.markdown_engine_events.proofs.packed.PackedSlice.slice.Goals as goal

pub returns : goal.returns
returns c = view-part _ _ _ _ _ _ c.self.view_is refl
