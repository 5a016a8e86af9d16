use Rattle.std.proofs.Common.{◌∙◌, ap, sym, length, refl}
use Rattle.markdown_content.specs.Content.{content_of}
use Rattle.markdown_block_definitions.proofs.FrontTexts.{front-none}
use Rattle.markdown_block_definitions.proofs.TextPushes.{values-alone, firsts-alone, as-many}
use Rattle.markdown_block_definitions.proofs.front.definitions_at_front.Goals as goal

pub read_front-requires : goal.read_front-requires
read_front-requires c =
    ap length c.deref-2.ensures.value ∙ as-many _ _ _ _ (content_of c.args.document.now c.args.text.now) c.in_ok-push_text.ensures c.new-values.ensures.items c.new-firsts.ensures.items ∙ sym (ap length c.deref.ensures.value)

pub returns : goal.returns
returns c =
    let cs = content_of c.args.document.now c.args.text.now in
    c.in_ok-front.ensures cs (values-alone _ _ _ _ cs c.in_ok-push_text.ensures c.new-values.ensures.items ∙ sym c.deref.ensures.value) (firsts-alone _ _ _ _ cs c.in_ok-push_text.ensures c.new-firsts.ensures.items ∙ sym c.deref-2.ensures.value)

pub returns-then-begins_otherwise : goal.returns-then-begins_otherwise
returns-then-begins_otherwise c = front-none (content_of c.args.document.now c.args.text.now) _ (c.begins_otherwise.ensures.none c.if-begins_otherwise.true) c.new.ensures.items refl
