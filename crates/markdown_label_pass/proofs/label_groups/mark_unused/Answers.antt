-- The top is marked and taken off.
use Rattle.std.proofs.Common.{◌++◌, length}
use Rattle.markdown_label.specs.Brackets.{loose_edits}
use Rattle.markdown_label.specs.LabelsHandedOver.{starts_of}
use Rattle.markdown_label_pass.proofs.LabelsHandedOverLemmas.{starts-top, rest-within}
use Rattle.markdown_label_pass.proofs.label_groups.mark_unused.Goals as goal

pub loop-start-preserved : goal.loop-start-preserved
loop-start-preserved c = record {
  marked = starts-top c.args.events.now c.in-Some.start c.pop.new.self c.loop-start.starts (c.args.map.now ++ loose_edits c.args.events.now (starts_of c.args.starts.now)) c.loop-start.map c.mark_loose.new.map c.in-Some.ensures.cases c.loop-start.invariant.marked c.in_ok-mark_loose.ensures;
  within = rest-within (length c.args.events.now) c.in-Some.start c.pop.new.self c.loop-start.starts c.in-Some.ensures.cases c.loop-start.invariant.within;
}
