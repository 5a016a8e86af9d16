-- The next label is marked.
use Rattle.std.proofs.Common.{arith}
use Rattle.markdown_label_pass.proofs.LabelsHandedOverLemmas.{labels-step}
use Rattle.markdown_label_pass.proofs.label_groups.mark_labels.Goals as goal

pub loop-label-preserved : goal.loop-label-preserved
loop-label-preserved c =
    labels-step c.args.events.now c.args.labels.now c.loop-label.label-index _ c.args.map.now c.loop-label.map c.mark_label.new.map (omega (arith, c.loop-label-test.true)) c.loop-label.invariant c.in_ok-mark_label.ensures
