use Rattle.markdown_block_model.specs.LineRests.{trimmed}
use Rattle.markdown_block_line.proofs.HtmlBegins.{html-not, html-here}
use Rattle.markdown_block_line.proofs.html.html_at.Goals as goal

pub returns-then-not-may_begin : goal.returns-then-not-may_begin
returns-then-not-may_begin c = λ cs h. html-not c.args.after_text cs c.html_kind-kind.result c.may_begin.result (c.html_kind-kind.ensures (trimmed cs) (c.trimmed.ensures cs h)) c.may_begin.ensures c.if-not-may_begin.true

pub returns : goal.returns
returns c = λ cs h. html-here c.args.after_text cs c.html_kind-kind.result c.may_begin.result c.ends_html-ended.result (c.html_kind-kind.ensures (trimmed cs) (c.trimmed.ensures cs h)) c.may_begin.ensures c.if-not-may_begin.false (c.ends_html-ended.ensures cs h)
