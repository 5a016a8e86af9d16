use Rattle.std.proofs.Common.{refl, ◌∙◌}
use Rattle.markdown_engine_events.proofs.PackedLemmas.{view-previous, previous-near}
use Rattle.markdown_engine_events.proofs.packed.PackedList.set_previous.Goals as goal

pub returns : goal.returns
returns c = view-previous _ _ _ _ _ c.at-item.result.now _ c.self.view_is c.at-item.ensures
    (c.chain_with_previous-chain.ensures.previous _ ∙ previous-near c.args.previous c.args.index c.requires.near) c.chain_with_previous-chain.ensures.next refl c.put.ensures
