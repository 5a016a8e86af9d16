use Rattle.std.proofs.Common.{sym}
use Rattle.markdown_block_line.proofs.HtmlBegins.{ends-raw, ends-comment, ends-instruction, ends-declaration, ends-cdata, ends-never}
use Rattle.markdown_block_line.proofs.html.ends_html.Goals as goal

pub returns-then-kind-eq1 : goal.returns-then-kind-eq1
returns-then-kind-eq1 c = λ cs h. sym (ends-raw c.args.kind cs c.args.line.now c.holds_raw_end.result c.if-kind-eq1.true h c.holds_raw_end.ensures)

pub returns-then-kind-eq2 : goal.returns-then-kind-eq2
returns-then-kind-eq2 c = λ cs h. sym (ends-comment c.args.kind cs c.args.line.now c.holds.result c.if-kind-eq2.true h c.holds.ensures)

pub returns-then-kind-eq3 : goal.returns-then-kind-eq3
returns-then-kind-eq3 c = λ cs h. sym (ends-instruction c.args.kind cs c.args.line.now c.holds-then-kind-eq3.result c.if-kind-eq3.true h c.holds-then-kind-eq3.ensures)

pub returns-then-kind-eq4 : goal.returns-then-kind-eq4
returns-then-kind-eq4 c = λ cs h. sym (ends-declaration c.args.kind cs c.args.line.now c.holds-then-kind-eq4.result c.if-kind-eq4.true h c.holds-then-kind-eq4.ensures)

pub returns-then-kind-eq5 : goal.returns-then-kind-eq5
returns-then-kind-eq5 c = λ cs h. sym (ends-cdata c.args.kind cs c.args.line.now c.holds-then-kind-eq5.result c.if-kind-eq5.true h c.holds-then-kind-eq5.ensures)

pub returns : goal.returns
returns c = λ cs h. sym (ends-never c.args.kind cs c.if-kind-eq1.false c.if-kind-eq2.false c.if-kind-eq3.false c.if-kind-eq4.false c.if-kind-eq5.false)
