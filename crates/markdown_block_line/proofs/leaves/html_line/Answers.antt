use Rattle.markdown_block_line.proofs.HtmlBegins.{html-ends, html-goes-on}
use Rattle.markdown_block_line.proofs.leaves.html_line.Goals as goal

pub returns-then-ends_before : goal.returns-then-ends_before
returns-then-ends_before c = λ cs text h. html-ends c.args.kind text cs c.ends_before.result (c.ends_before.ensures cs h) c.if-ends_before.true

pub returns : goal.returns
returns c = λ cs text h. html-goes-on c.args.kind text cs c.ends_before.result c.ends_html.result (c.ends_before.ensures cs h) c.if-ends_before.false (c.ends_html.ensures cs h)
