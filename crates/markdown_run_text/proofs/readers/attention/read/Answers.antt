use Rattle.std.proofs.Common.{ap, sym, ◌∙◌, arith}
use Rattle.markdown_content.specs.Place.{Place}
use Rattle.markdown_event.specs.declared.event.Name.TheVariants as N
use Rattle.markdown_event.specs.declared.event.Point.{Point}
use Rattle.markdown_engine.proofs.ReadingSequences.{scratched-same}
use Rattle.markdown_run_text.proofs.AttentionReads.{no-run, run-reads}
use Rattle.markdown_run_text.specs.PlacesPassed.{past_run, with_leaf}
use Rattle.markdown_run_text.proofs.readers.attention.read.Goals as goal

pub returns-then-not-begins_run-clause-reads : goal.returns-then-not-begins_run-clause-reads
returns-then-not-begins_run-clause-reads c = grind (arith, no-run, scratched-same, c.requires, c.begins_run.ensures, c.if-not-begins_run.true)

pub returns-clause-reads : goal.returns-clause-reads
returns-clause-reads c =
    run-reads c.args.tokenizer.now c.append_leaf.new.tokenizer c.register_resolver.new.self c.args.marker c.requires (sym c.begins_run.ensures ∙ c.if-not-begins_run.false)
    (c.in_ok-append_leaf.ensures.ok
    ∙ ap (λ (p : Place). with_leaf N.AttentionSequence c.point-from.result (record c.args.tokenizer.now { cursor = p })) c.pass_markers.ensures
    ∙ ap (λ (p : Point). with_leaf N.AttentionSequence p (record c.args.tokenizer.now { cursor = past_run c.args.marker c.args.tokenizer.now.cursor })) c.point-from.ensures)
    c.in_ok-register_resolver.ensures.ok
