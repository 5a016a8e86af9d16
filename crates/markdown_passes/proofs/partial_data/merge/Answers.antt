use Rattle.std.proofs.Common.{◌≡◌, ◌∙◌, List, OnOk, ap, sym, subst}
use Rattle.markdown_engine_events.specs.Edits.{CanEdit, edited}
use Rattle.markdown_event.specs.declared.event.Event.{Event}
use Rattle.markdown_engine_events.specs.declared.util.edit_map.Edit.{Edit}
use Rattle.markdown_passes.proofs.MergePassLaw.{merged-events}
use Rattle.markdown_passes.proofs.MergeEdits.{can-merge}
use Rattle.markdown_passes.proofs.partial_data.merge.Goals as goal

pub consume-requires : goal.consume-requires
consume-requires c =
    subst (λ (log : List Edit). CanEdit log c.args.events.now) (sym c.in_ok-mark_joints.ensures) (can-merge c.args.events.now)

pub returns-clause-merged : goal.returns-clause-merged
returns-clause-merged c t h e =
    subst (λ (es : List Event). OnOk c.consume.result (c.consume.new.events ≡ es)) (ap (λ (log : List Edit). edited log c.args.events.now) c.in_ok-mark_joints.ensures ∙ merged-events t h c.args.events.now e) c.consume.ensures.ok
