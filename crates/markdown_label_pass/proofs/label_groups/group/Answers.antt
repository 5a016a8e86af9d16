-- The edits that are asked for are those of the brackets.
use Rattle.std.proofs.Common.{◌∙◌, List, length, sym, ap, subst}
use Rattle.std.specs.List.{All}
use Rattle.markdown_engine.specs.declared.tokenizer.Label.{Label}
use Rattle.markdown_engine.specs.declared.tokenizer.LabelStart.{LabelStart}
use Rattle.markdown_label.specs.Brackets.{IsLabelWithin, IsStartWithin}
use Rattle.markdown_label.specs.LabelsHandedOver.{starts_of}
use Rattle.markdown_label_pass.proofs.LabelsHandedOverLemmas.{has-labels, has-unused, has-failed, has-may, has-group, asked}
use Rattle.markdown_label_pass.proofs.label_groups.group.Goals as goal

pub mark_labels-requires : goal.mark_labels-requires
mark_labels-requires c =
    subst (λ (ls : List Label). All (IsLabelWithin (length c.args.events.now)) ls) (sym c.as_slice.ensures) (has-labels c.requires.brackets.0 c.args.state.now c.args.events.now c.requires.brackets.1)

pub mark_unused-requires : goal.mark_unused-requires
mark_unused-requires c = has-unused c.requires.brackets.0 c.args.state.now c.args.events.now c.requires.brackets.1

pub mark_failed-requires : goal.mark_failed-requires
mark_failed-requires c =
    subst (λ (ss : List LabelStart). All (IsStartWithin (length c.args.events.now)) (starts_of ss)) (sym c.as_slice-2.ensures) (has-failed c.requires.brackets.0 c.args.state.now c.args.events.now c.requires.brackets.1)

pub consume-requires : goal.consume-requires
consume-requires c =
    has-may c.requires.brackets.0 c.args.state.now c.args.events.now c.requires.brackets.1 c.mark_failed.new.map
    (asked c.args.events.now c.args.state.now.labels c.as_slice.result.now (starts_of c.args.state.now.label_starts) (starts_of c.args.state.now.label_starts_loose) (starts_of c.as_slice-2.result.now) c.args.map.now c.mark_labels.new.map c.mark_unused.new.map c.mark_failed.new.map c.requires.map c.in_ok-mark_labels.ensures c.as_slice.ensures c.in_ok-mark_unused.ensures.marked c.in_ok-mark_failed.ensures (ap starts_of c.as_slice-2.ensures))

pub returns-clause-events : goal.returns-clause-events
returns-clause-events c b h =
    c.in_ok-consume.ensures.ok
    ∙ has-group b c.args.state.now c.args.events.now h c.mark_failed.new.map
    (asked c.args.events.now c.args.state.now.labels c.as_slice.result.now (starts_of c.args.state.now.label_starts) (starts_of c.args.state.now.label_starts_loose) (starts_of c.as_slice-2.result.now) c.args.map.now c.mark_labels.new.map c.mark_unused.new.map c.mark_failed.new.map c.requires.map c.in_ok-mark_labels.ensures c.as_slice.ensures c.in_ok-mark_unused.ensures.marked c.in_ok-mark_failed.ensures (ap starts_of c.as_slice-2.ensures))
