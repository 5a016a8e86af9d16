use Rattle.std.proofs.Common.{◌∙◌}
use Rattle.markdown_engine_events.proofs.EditOrder.{removed-more, removed-left}
use Rattle.markdown_engine_events.proofs.util.edit_map.removed_from.Goals as goal
use Rattle.markdown_engine_events.proofs.util.edit_map.removed_from.Goals.{then-edit-at, else-edit-at}

pub loop-edit-preserved : goal.loop-edit-preserved
loop-edit-preserved c =
    let i = c.args.at in
    let cs = c.args.edits.now.comes.now in
    let es = c.args.edits.now.entries.now in
    elim c.if-edit-at.branch [
      | then-edit-at w ↦ removed-more cs i es c.loop-edit.edit-index c.loop-edit.removed c.if-edit-at.removed c.loop-edit-test.true c.loop-edit.invariant (w.removed-is ∙ w.saturating_add-removed.ensures) w.if-edit-at.true
      | else-edit-at w ↦ rw w.removed-is (removed-left cs i es c.loop-edit.edit-index c.loop-edit.removed c.loop-edit-test.true c.loop-edit.invariant w.if-edit-at.false)
    ]
