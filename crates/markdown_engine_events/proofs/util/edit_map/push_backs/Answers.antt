use Rattle.std.proofs.Common.{◌∙◌, ap, ◌++◌}
use Rattle.markdown_engine_events.specs.Edits.{edit_of}
use Rattle.markdown_engine_events.proofs.EditOrder.{entry, fresh-read, backs-more, comes-behind, none-behind, none-elsewhere}
use Rattle.markdown_engine_events.proofs.util.edit_map.push_backs.Goals as goal
use Rattle.markdown_engine_events.proofs.util.edit_map.push_backs.Goals.{then-edit-at+then-not-edit+in_ok-extend_fresh, else-edit-at, else-edit-at-via-then-edit-at+else-not-edit, else-edit-at-via-else-edit-at}

pub extend_fresh-requires : goal.extend_fresh-requires
extend_fresh-requires c =
    fresh-read c.args.edits.now.comes.now (entry c.args.edits.now.entries.now c.loop-edit.edit-index) _ c.requires.unlinked c.brought.ensures

pub loop-edit-preserved : goal.loop-edit-preserved
loop-edit-preserved c =
    let i = c.args.at in
    let cs = c.args.edits.now.comes.now in
    let es = c.args.edits.now.entries.now in
    let r = edit_of cs (entry es c.loop-edit.edit-index) in
    let ys = c.loop-edit.done in
    let more = backs-more cs i es c.loop-edit.edit-index c.args.done.now ys c.if-edit-at.done c.loop-edit-test.true c.loop-edit.invariant in
    elim c.if-edit-at.branch [
      | then-edit-at+then-not-edit+in_ok-extend_fresh w ↦ more (w.done-is ∙ w.in_ok-extend_fresh.ensures.ok ∙ ap (λ x. ys ++ x) (comes-behind r i _ w.if-edit-at.true w.if-not-edit.true w.brought.ensures))
      | else-edit-at w ↦ more (w.done-is ∙ elim w.else-edit-at.branch [
        | else-edit-at-via-then-edit-at+else-not-edit v ↦ none-behind r i ys v.if-not-edit.false
        | else-edit-at-via-else-edit-at v ↦ none-elsewhere r i ys v.if-edit-at.false
      ])
    ]
