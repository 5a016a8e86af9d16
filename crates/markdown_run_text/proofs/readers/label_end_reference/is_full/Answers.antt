use Rattle.std.proofs.Common.{◌≡◌, true, ap, sym, ◌∙◌, arith}
use Rattle.std.proofs.lemmas.Result.{IfOk-weaker}
use Rattle.std.specs.Prelude.{max}
use Rattle.markdown_event.proofs.AndParts.{and-right}
use Rattle.markdown_content.specs.Place.{exit_point, moved, point_of}
use Rattle.markdown_event.specs.declared.event.Point.{Point}
use Rattle.markdown_engine.specs.declared.tokenizer.Tokenizer.{Tokenizer}
use Rattle.markdown_run_text.specs.PlainReference.{past_text, text_at}
use Rattle.markdown_run_text.proofs.PlainReferenceReads.{full-cuts, full-is}
use Rattle.markdown_run_text.proofs.readers.label_end_reference.is_full.Goals as goal

pub is_defined_from-requires-clause-cuts : goal.is_defined_from-requires-clause-cuts
is_defined_from-requires-clause-cuts c = grind (arith, full-cuts, and-right, c.consume-2.ensures, c.consume.ensures, c.save-place.ensures, c.pass_text.ensures.holds, c.if-not-pass_text.false, c.exit_point.ensures.exit, c.pass_text.ensures.place, c.requires.ready.text, c.requires.here, c.point-start.ensures, c.max-end.ensures)

pub is_defined_from-requires-clause-own : goal.is_defined_from-requires-clause-own
is_defined_from-requires-clause-own c = c.requires.ready.text.own

pub returns-clause-full : goal.returns-clause-full
returns-clause-full c =
    let T : Tokenizer = c.args.tokenizer.now in
    let placed : c.consume-2.new.self ≡ moved (moved T.cursor) = c.consume-2.ensures ∙ ap moved (c.consume.ensures ∙ ap moved c.save-place.ensures) in
    let there : text_at (moved (moved T.cursor)) ≡ true = ap text_at (sym placed) ∙ sym c.pass_text.ensures.holds ∙ c.if-not-pass_text.false in
    let past : c.exit_point.result ≡ exit_point (past_text (moved (moved T.cursor))) =
    c.exit_point.ensures.exit ∙ ap exit_point (c.pass_text.ensures.place c.if-not-pass_text.false ∙ ap past_text placed) in
    IfOk-weaker c.is_defined_from.result _ _
    (λ full k. k ∙ full-is T c.requires.ready.text (and-right _ _ c.requires.here) there c.point-start.result.index c.max-end.result
    (ap (λ (q : Point). q.index) (c.point-start.ensures ∙ ap point_of placed))
    (c.max-end.ensures ∙ ap (λ (q : Point). max q.index c.point-start.result.index) past))
    c.is_defined_from.ensures.defined
