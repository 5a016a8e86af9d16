use Rattle.std.proofs.Common.{◌∙◌, ap, Some, drop, arith}
use Rattle.std.proofs.lemmas.List.{drop_all}
use Rattle.markdown_content.specs.declared.configuration.Rules.{Rules}
use Rattle.markdown_util.specs.declared.decoding.Decoding.{Decoding}
use Rattle.markdown_html.specs.Brought.{brought, left_of}
use Rattle.markdown_html.specs.BroughtWalk.{count_of}
use Rattle.markdown_html.specs.View.{page_from}
use Rattle.markdown_html.proofs.BroughtTree.{all_counted}
use Rattle.markdown_html.proofs.brought.left_of_limit.Goals as goal

pub returns : goal.returns
returns c = λ t is.
    let page = page_from c.args.parse_state.now c.args.pieces.now c.args.definitions.now c.args.options in
    let events = c.args.events.now in
    all_counted (record page { decoding = c.decoding_of.result; rules = c.rules.result }) c.args.limit t events (count_of c.loop-index.count) (drop c.loop-index.index events)
    (drop_all c.loop-index.index events (omega (arith, c.loop-index-test.false, c.len.ensures))) c.loop-index.invariant.whole is
    ∙ ap (λ (r : Rules). left_of (Some c.args.limit) (brought (record page { decoding = c.decoding_of.result; rules = r }) t)) c.rules.ensures
    ∙ ap (λ (how : Decoding). left_of (Some c.args.limit) (brought (record page { decoding = how }) t)) c.decoding_of.ensures
