use Rattle.std.proofs.Common.{◌≡◌, ◌∙◌, ◌++◌, List, OnOk, ap, subst, append_assoc}
use Rattle.markdown_event.specs.declared.event.Event.{Event}
use Rattle.markdown_event.specs.declared.event.Name.TheVariants as N
use Rattle.markdown_passes.specs.TrimmedData.{leaf_events}
use Rattle.markdown_passes.specs.EmailScan.{literal_events}
use Rattle.markdown_passes.proofs.literal.push_literal.Goals as goal

pub returns : goal.returns
unfolding literal_events
returns c =
    let front : List Event = leaf_events N.Data c.args.from c.args.literal.start in
    let last : List Event = leaf_events c.args.literal.name c.args.literal.start c.args.literal.end in
    subst (λ (es : List Event). OnOk c.push_leaf-2.result (c.push_leaf-2.new.events.items ≡ es)) (ap (λ es. es ++ last) c.in_ok-push_leaf.ensures ∙ append_assoc c.args.events.now.items front last) c.push_leaf-2.ensures
