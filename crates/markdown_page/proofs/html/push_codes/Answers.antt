use Rattle.std.proofs.Common.{◌∙◌, ◌++◌, sym, ap, arith, List}
use Rattle.markdown_content.specs.Codes.{Code}
use Rattle.markdown_block_definitions.specs.TextCopies.{codes_left, spot_place}
use Rattle.markdown_block_definitions.proofs.SpotReads.{spot-small}
use Rattle.markdown_block_definitions.proofs.TextPushes.{left-more, still-behind}
use Rattle.markdown_page.specs.GivenPage.{page_of}
use Rattle.markdown_page.specs.LinesByCode.{lines_from}
use Rattle.markdown_page.proofs.HtmlCodes.{plain-written}
use Rattle.markdown_page.proofs.html.push_codes.Goals as goal

pub returns-then-behind-spot-clause-text : goal.returns-then-behind-spot-clause-text
returns-then-behind-spot-clause-text c = λ cs.
    plain-written (page_of c.args.given.now) c.args.given.now.options.raw_html c.args.bytes.now c.args.piece c.args.spot c.past_plain-behind.result c.args.line cs _ _
    c.past_plain-behind.ensures c.if-behind-spot.true c.in_ok-push_as.ensures

pub returns-then-behind-spot-clause-later : goal.returns-then-behind-spot-clause-later
returns-then-behind-spot-clause-later c = omega (arith, c.if-behind-spot.true, (spot-small c.args.bytes.now c.args.spot c.requires.is_spot).0)

pub returns-clause-text : goal.returns-clause-text
returns-clause-text c = λ cs.
    let bytes = c.args.bytes.now in
    let t = c.read-value.result.1 in
    c.in_ok-line.ensures t c.read-value.ensures (codes_left bytes c.args.piece (spot_place t) ++ cs)
    ∙ ap (λ (xs : List Code). c.args.out.now.items ++ lines_from (page_of c.args.given.now) c.args.given.now.options.raw_html c.args.line (xs ++ cs))
    (sym (left-more bytes c.args.piece c.args.spot t c.read-value.result.0 c.read-value.ensures c.requires.started c.requires.before_end))

pub returns-clause-started : goal.returns-clause-started
returns-clause-started c = still-behind c.args.bytes.now c.args.piece c.args.spot c.read-value.result.1 c.read-value.result.0 c.read-value.ensures c.args.piece.start c.requires.started
