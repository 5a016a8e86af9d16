use Rattle.std.proofs.Common.{refl}
use Rattle.markdown_test_parts.proofs.EditedLists.{more, tested}
use Rattle.markdown_test_parts.proofs.events.edit_one_place.Goals as goal

pub consume-requires : goal.consume-requires
consume-requires c =
    let events =
    more _ _ _ _ _ (more _ _ _ _ _ (more _ _ _ _ _ (more _ _ _ _ _ (more _ _ _ _ _ (more _ _ _ _ _ c.requires.events c.linked.ensures c.in_ok-push.ensures.ok) c.plain.ensures c.in_ok-push-2.ensures.ok) c.plain-2.ensures c.in_ok-push-3.ensures.ok) c.plain-3.ensures c.in_ok-push-4.ensures.ok) c.linked-2.ensures c.in_ok-push_linked.ensures.ok) c.plain-4.ensures c.in_ok-push-5.ensures.ok in
    let log =
    more _ _ _ _ _ (more _ _ _ _ _ (more _ _ _ _ _ (more _ _ _ _ _ (more _ _ _ _ _ c.requires.map refl c.in_ok-add.ensures.ok) refl c.in_ok-add-2.ensures.ok) refl c.in_ok-add_before.ensures.ok) refl c.in_ok-add_before-2.ensures.ok) refl c.in_ok-add_slice.ensures.ok in
    tested _ _ _ _ log events refl
