-- A front that is too long is a front of the whole text.
use Rattle.std.proofs.Common.{◌∙◌, ap, sym}
use Rattle.markdown_model.specs.LabelEnd.{is_too_long, with_caret}
use Rattle.markdown_label_names.proofs.IdentifierFrontLemmas.{front-cuts}
use Rattle.markdown_label_names.proofs.LongLabels.{long-front}
use Rattle.markdown_label_names.proofs.TextParts.{text-front}
use Rattle.markdown_label_names.proofs.label_text.has_long_front.Goals as goal

pub joined-requires-clause-cuts : goal.joined-requires-clause-cuts
joined-requires-clause-cuts c =
    front-cuts _ c.args.start c.boundary-middle.result c.args.end _ c.requires.cuts c.boundary-middle.ensures.after c.boundary-middle.ensures.boundary

pub returns-then-is_too_long : goal.returns-then-is_too_long
returns-then-is_too_long c = λ _.
    long-front c.args.kind _ _
    (text-front c.args.tokenizer.now c.requires.own c.args.start c.boundary-middle.result c.args.end (front-cuts _ c.args.start c.boundary-middle.result c.args.end _ c.requires.cuts c.boundary-middle.ensures.after c.boundary-middle.ensures.boundary).in_order c.boundary-middle.ensures.before)
    (ap (λ xs. is_too_long (with_caret c.args.kind xs)) (sym (c.as_slice.ensures.value ∙ c.in_ok-front.ensures)) ∙ sym c.is_too_long.ensures ∙ c.if-is_too_long.true)
