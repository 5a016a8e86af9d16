use Rattle.std.proofs.Common.{ℕ, subst, Result, Ok, Err, IfErr, IfOk}
use Rattle.markdown_block_model.specs.BlockTree as model
use Rattle.markdown_blocks.specs.BlockRows.{rows_from}
use Rattle.markdown_page.specs.DocumentBrought.{IsBeyond}
use Rattle.markdown_page.specs.BroughtSoFar.{IsStop}
use Rattle.markdown_page.proofs.PageSettings.{same-brought, same-html}
use Rattle.markdown_page.proofs.page.page_html.Goals as goal

-- what follows for each value
if-ok-more : {T E : Type 0} (r : Result T E) (P Q : T → Type 0) → ((x : T) → P x → Q x) → IfOk r P → IfOk r Q
if-ok-more (Ok x) P Q f h = f x h
if-ok-more (Err e) P Q f h = tt

pub returns-clause-html : goal.returns-clause-html
returns-clause-html c = λ x is. if-ok-more c.write.result _ _
    (λ html h. same-html x c.args.document.now c.args.targets.now c.args.options (rows_from c.args.document.now.bytes.now model.nothing c.args.rows.now) html.items is.names c.requires.footnotes is.defined is.tree h)
    c.write.ensures.html

pub returns-clause-within : goal.returns-clause-within
returns-clause-within c = λ x is.
    let same = same-brought x c.args.document.now c.args.targets.now c.args.options (rows_from c.args.document.now.bytes.now model.nothing c.args.rows.now) is.names c.requires.footnotes is.defined is.tree in
    subst (λ (n : ℕ). IfOk c.write.result (λ _. IsBeyond c.args.limit n → ⊥)) same c.write.ensures.within

pub returns-clause-stop : goal.returns-clause-stop
returns-clause-stop c = λ x is.
    let same = same-brought x c.args.document.now c.args.targets.now c.args.options (rows_from c.args.document.now.bytes.now model.nothing c.args.rows.now) is.names c.requires.footnotes is.defined is.tree in
    subst (λ (n : ℕ). IfErr c.write.result (IsStop c.args.limit n)) same c.write.ensures.stop
