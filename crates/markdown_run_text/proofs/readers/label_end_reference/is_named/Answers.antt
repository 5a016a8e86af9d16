use Rattle.std.proofs.Common.{ap, ◌∙◌, arith}
use Rattle.std.specs.Prelude.{max}
use Rattle.markdown_event.specs.declared.event.Point.{Point}
use Rattle.markdown_engine.specs.declared.tokenizer.Tokenizer.{Tokenizer}
use Rattle.markdown_label_names.proofs.BytesBetween.{place-lent}
use Rattle.markdown_run_text.proofs.PlainReferenceReads.{named-cuts, named-is, start-within}
use Rattle.markdown_run_text.proofs.readers.label_end_reference.is_named.Goals as goal

pub is_label_from-requires-clause-own : goal.is_label_from-requires-clause-own
is_label_from-requires-clause-own c = c.requires.ready.text.own

pub is_label_from-requires-clause-cuts : goal.is_label_from-requires-clause-cuts
is_label_from-requires-clause-cuts c =
    let T : Tokenizer = c.args.tokenizer.now in
    let l = c.in-Some.top.now in
    named-cuts T c.requires.ready c.requires.here l _ c.in-Some.ensures c.at-start.result.point.index c.max-end.result
    (ap (λ (q : Point). q.index) (place-lent T.events l.start.1 c.at-start.result (start-within T c.requires.ready c.requires.here l _ c.in-Some.ensures) c.at-start.ensures))
    (c.max-end.ensures ∙ ap (λ (q : Point). max q.index c.at-start.result.point.index) c.point.ensures)

pub returns-clause-named : goal.returns-clause-named
returns-clause-named c = grind (arith, named-is, place-lent, start-within, c.requires.ready, c.requires.here, c.in-Some.ensures, c.at-start.ensures, c.max-end.ensures, c.point.ensures, c.is_label_from.ensures.defined)
