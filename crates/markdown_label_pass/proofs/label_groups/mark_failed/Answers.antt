-- The next start is marked.
use Rattle.std.proofs.Common.{length, arith}
use Rattle.markdown_label_pass.proofs.LabelsHandedOverLemmas.{start-within, starts-step}
use Rattle.markdown_label_pass.proofs.label_groups.mark_failed.Goals as goal

pub mark_loose-requires : goal.mark_loose-requires
mark_loose-requires c =
    start-within (length c.args.events.now) c.args.starts.now c.loop-start.start-index _ c.requires (omega (arith, c.loop-start-test.true))

pub loop-start-preserved : goal.loop-start-preserved
loop-start-preserved c =
    starts-step c.args.events.now c.args.starts.now c.loop-start.start-index _ c.args.map.now c.loop-start.map c.mark_loose.new.map (omega (arith, c.loop-start-test.true)) c.loop-start.invariant c.in_ok-mark_loose.ensures
