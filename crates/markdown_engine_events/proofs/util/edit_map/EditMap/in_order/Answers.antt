use Rattle.std.proofs.Common.{refl}
use Rattle.markdown_engine_events.proofs.EditOrder.{brought-seen, rest-seen}
use Rattle.markdown_engine_events.proofs.util.edit_map.EditMap.in_order.Goals as goal

pub returns-clause-rest : goal.returns-clause-rest
returns-clause-rest c =
    let seen = brought-seen c.self.inside.comes c.self.inside.comes c.self.inside.log c.as_slice.result.now refl c.as_slice.ensures c.self.invariant.brought in
    rest-seen c.self.inside.comes c.self.inside.comes c.self.inside.log c.as_slice.result.now c.in_ok-by_place.field-0.now c.args.self.now refl c.as_slice.ensures c.self.view_is (c.in_ok-by_place.ensures.rest c.self.inside.comes seen)

pub returns-clause-brought : goal.returns-clause-brought
returns-clause-brought c =
    let seen = brought-seen c.self.inside.comes c.self.inside.comes c.self.inside.log c.as_slice.result.now refl c.as_slice.ensures c.self.invariant.brought in
    c.in_ok-by_place.ensures.brought c.self.inside.comes seen
