use Rattle.std.proofs.Common.{◌∙◌, ap, sym, length, nat_lt}
use Rattle.markdown_content.specs.Content.{content_of}
use Rattle.markdown_block_definitions.proofs.DefinitionReads.{left-is}
use Rattle.markdown_block_definitions.proofs.TextPushes.{values-alone, firsts-alone, as-many}
use Rattle.markdown_block_definitions.proofs.document.DefinitionsHasText.test.Goals as goal

pub definitions_len-len-requires : goal.definitions_len-len-requires
definitions_len-len-requires c =
    ap length c.deref-2.ensures.value ∙ as-many _ _ _ _ (content_of c.args.document.now c.args.text.now) c.in_ok-push_text.ensures c.new-values.ensures.items c.new-firsts.ensures.items ∙ sym (ap length c.deref.ensures.value)

pub returns : goal.returns
returns c =
    let cs = content_of c.args.document.now c.args.text.now in
    let h = values-alone _ _ _ _ cs c.in_ok-push_text.ensures c.new-values.ensures.items ∙ sym c.deref.ensures.value in
    ap (nat_lt c.definitions_len-len.result) (c.len.ensures ∙ sym c.deref.ensures.len)
    ∙ left-is cs c.deref.result.now c.definitions_len-len.result h (c.definitions_len-len.ensures.same cs h (firsts-alone _ _ _ _ cs c.in_ok-push_text.ensures c.new-firsts.ensures.items ∙ sym c.deref-2.ensures.value))

pub returns-then-begins_otherwise : goal.returns-then-begins_otherwise
returns-then-begins_otherwise c = sym (c.begins_otherwise.ensures.text c.if-begins_otherwise.true)
