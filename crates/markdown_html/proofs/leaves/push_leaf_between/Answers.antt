use Rattle.std.proofs.Common.{◌≡◌, ◌++◌, subst, OnOk}
use Rattle.markdown_html_model.specs.Html.{leaf_html}
use Rattle.markdown_html.specs.View.{page_of}
use Rattle.markdown_html.proofs.PlainStretch.{plain-order, plain-end, plain-text}
use Rattle.markdown_html.proofs.leaves.push_leaf_between.Goals as goal

pub push_leaf_at-requires-clause-low : goal.push_leaf_at-requires-clause-low
push_leaf_at-requires-clause-low c = plain-order c.args.given.now.bytes.now c.args.from c.args.to c.requires.in_order c.if-from-eq0.true c.if-to-eq0.true

pub push_leaf_at-requires-clause-high : goal.push_leaf_at-requires-clause-high
push_leaf_at-requires-clause-high c = plain-end c.args.given.now.bytes.now c.args.from c.args.to c.requires.in_order c.if-to-eq0.true

pub returns-then-to-eq0 : goal.returns-then-to-eq0
returns-then-to-eq0 c =
    subst (λ text. OnOk c.push_leaf_at.result (c.push_leaf_at.new.out.items ≡ c.args.out.now.items ++ leaf_html (page_of c.args.given.now) c.args.within c.args.role text))
    (plain-text c.args.given.now.bytes.now c.args.from c.args.to c.requires.in_order c.if-from-eq0.true c.if-to-eq0.true) c.push_leaf_at.ensures
