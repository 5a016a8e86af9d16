use Rattle.std.proofs.Common.{◌∙◌, sym, drop, true, false}
use Rattle.markdown_block_line.proofs.RestValues.{rest-values}
use Rattle.markdown_block_line.proofs.HtmlBegins.{html-none, html-first, html-second}
use Rattle.markdown_block_line.proofs.html.html_kind.Goals as goal

pub returns-then-not-next_in : goal.returns-then-not-next_in
returns-then-not-next_in c = λ cs h. sym (html-none cs (sym (c.next_in.ensures.first cs h) ∙ c.if-not-next_in.true))

pub returns-then-kind-gt0 : goal.returns-then-kind-gt0
returns-then-kind-gt0 c = λ cs h. sym (html-first cs c.kind_behind-kind.result (sym (c.next_in.ensures.first cs h) ∙ c.if-not-next_in.false) (sym (c.kind_behind-kind.ensures (drop 1 cs) (rest-values (1) cs c.args.line.now h))) c.if-kind-gt0.true)

pub returns-then-is_other_tag : goal.returns-then-is_other_tag
returns-then-is_other_tag c = λ cs h. sym (html-second cs c.kind_behind-kind.result true (sym (c.next_in.ensures.first cs h) ∙ c.if-not-next_in.false) (sym (c.kind_behind-kind.ensures (drop 1 cs) (rest-values (1) cs c.args.line.now h))) c.if-kind-gt0.false (sym (c.is_other_tag.ensures cs h) ∙ c.if-is_other_tag.true))

pub returns-else-is_other_tag : goal.returns-else-is_other_tag
returns-else-is_other_tag c = λ cs h. sym (html-second cs c.kind_behind-kind.result false (sym (c.next_in.ensures.first cs h) ∙ c.if-not-next_in.false) (sym (c.kind_behind-kind.ensures (drop 1 cs) (rest-values (1) cs c.args.line.now h))) c.if-kind-gt0.false (sym (c.is_other_tag.ensures cs h) ∙ c.if-is_other_tag.false))
