use Rattle.std.proofs.Common.{List, ℕ, subst}
use Rattle.markdown_block_definitions.specs.DefinitionTexts.{texts_of}
use Rattle.markdown_inline_c.specs.FlatDefinitions.{IsAppendedText}
use Rattle.markdown_inline_c.proofs.FlatDefinitionLemmas.{one-more-written}
use Rattle.markdown_inline_c.proofs.definitions.FoundDefinitions.push.Goals as goal

pub returns : goal.returns
returns c = λ ts u all.
    let old = c.args.self.now in
    let between = c.push_label.new.labels.items in
    let label = subst (λ (text : List ℕ). IsAppendedText text old.labels.items between c.in_ok-label.label) c.as_slice.ensures.value c.in_ok-label.ensures in
    rw (c.in_ok-push.ensures.items, c.in_ok-push-2.ensures.items)
    (one-more-written c.args.how ts (texts_of c.args.definition.now) old.labels.items between c.push_target.new.labels.items old.definitions.items old.targets.items c.in_ok-label.label c.in_ok-target.target all u label
    c.in_ok-target.ensures)
