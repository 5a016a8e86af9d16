use Rattle.std.proofs.Common.{◌∙◌, sym}
use Rattle.markdown_page.specs.GivenPage.{page_of}
use Rattle.markdown_page.proofs.HtmlCodes.{ending-written, other-written}
use Rattle.markdown_page.proofs.html.push_code.Goals as goal

pub returns-then-is_line_ending : goal.returns-then-is_line_ending
returns-then-is_line_ending c = λ t r cs.
    ending-written (page_of c.args.given.now) c.args.given.now.options.raw_html c.args.bytes.now c.args.spot t c.args.value c.args.line cs c.args.out.now.items c.push_ending_at.new.out.items
    c.requires.same c.requires.stands c.requires.begins (sym c.is_line_ending.ensures ∙ c.if-is_line_ending.true) r c.in_ok-push_ending_at.ensures

pub returns : goal.returns
returns c = λ t r cs.
    other-written (page_of c.args.given.now) c.args.given.now.options.raw_html c.args.bytes.now c.args.spot t c.args.value c.args.line c.is_leading-leading.result cs c.args.out.now.items c.push_value.new.out.items
    c.requires.stands c.requires.begins (sym c.is_line_ending.ensures ∙ c.if-is_line_ending.false) r c.is_leading-leading.ensures c.in_ok-push_value.ensures
