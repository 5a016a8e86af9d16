use Rattle.std.proofs.Common.{◌∙◌, arith}
use Rattle.markdown_engine_events.proofs.PackedLemmas.{length-seen, view-first}
use Rattle.markdown_engine_events.proofs.packed.PackedList.at.Goals as goal

pub returns : goal.returns
returns c =
    let size = length-seen _ _ _ c.self.view_is in
    c.unpack.ensures ∙ view-first _ _ _ _ _ c.self.view_is c.at.ensures (omega arith)
