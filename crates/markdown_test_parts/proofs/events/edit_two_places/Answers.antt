use Rattle.std.proofs.Common.{refl}
use Rattle.markdown_test_parts.proofs.EditedLists.{more, tested}
use Rattle.markdown_test_parts.proofs.events.edit_two_places.Goals as goal

pub consume-requires : goal.consume-requires
consume-requires c =
    let events =
    more _ _ _ _ _ (more _ _ _ _ _ (more _ _ _ _ _ (more _ _ _ _ _ c.requires.events c.data.ensures c.in_ok-push.ensures.ok) c.data-2.ensures c.in_ok-push-2.ensures.ok) c.data-3.ensures c.in_ok-push-3.ensures.ok) c.data-4.ensures c.in_ok-push-4.ensures.ok in
    let log = more _ _ _ _ _ (more _ _ _ _ _ c.requires.map refl c.in_ok-add_slice.ensures.ok) refl c.in_ok-add_marked.ensures.ok in
    tested _ _ _ _ log events refl
