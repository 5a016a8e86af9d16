use Rattle.std.proofs.Common.{refl, ◌∙◌}
use Rattle.markdown_engine_events.proofs.PackedLemmas.{view-next, next-if-near}
use Rattle.markdown_engine_events.proofs.packed.PackedList.set_next.Goals as goal

pub returns : goal.returns
returns c = view-next _ _ _ _ _ c.at-item.result.now _ c.self.view_is c.at-item.ensures c.chain_with_next-chain.ensures.previous
    (c.chain_with_next-chain.ensures.next _ ∙ next-if-near c.args.next c.args.index _ c.is_some.ensures c.requires.near) refl c.put.ensures
