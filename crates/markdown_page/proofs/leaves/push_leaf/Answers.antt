use Rattle.std.proofs.Common.{◌≡◌, ◌∙◌, ◌++◌, ap, sym, subst, List, ℕ, Bool, IfErr, OnOk, true, append_assoc}
use Rattle.std.proofs.lemmas.Result.{on_ok_weaker}
use Rattle.markdown_blocks.specs.BlockRows.{leaf_of}
use Rattle.markdown_page_model.specs.PageHtml.{leaf_html, leaf_setting}
use Rattle.markdown_page.specs.GivenPage.{page_of, bytes_of, setting_of}
use Rattle.markdown_page.specs.PlacedTree.{line_start}
use Rattle.markdown_blocks.specs.declared.block.Leaf.{Leaf}
use Rattle.markdown_page.specs.DocumentBrought.{block_brought, leaf_brought}
use Rattle.markdown_page.specs.BroughtSoFar.{IsSpent, IsStop}
use Rattle.markdown_page.specs.declared.given.Given.{Given}
use Rattle.markdown_page.proofs.LeafCases.{begins_line, other-brought, other-leaf, not-others}
use Rattle.markdown_page.proofs.leaves.push_leaf.Goals as goal

pub returns-in_ok-push_line_start-in_default-clause-html : goal.returns-in_ok-push_line_start-in_default-clause-html
returns-in_ok-push_line_start-in_default-clause-html c =
    let g = c.args.given.now in
    let l = leaf_of (bytes_of g) c.args.leaf.now in
    let html = leaf_html (leaf_setting (setting_of g) c.args.at.is_first l) (page_of g) l in
    on_ok_weaker c.push_block.result
    (λ (e : c.push_block.new.out.items ≡ c.push_line_start.new.out.items ++ html).
    e ∙ ap (λ (xs : List ℕ). xs ++ html) c.in_ok-push_line_start-in_default.ensures
    ∙ append_assoc c.args.out.now.items (line_start (page_of g) c.args.at.in_line) html
    ∙ ap (λ (xs : List ℕ). c.args.out.now.items ++ xs) (sym (other-leaf (setting_of g) (page_of g) c.args.at.is_tight c.args.at.in_line c.args.at.is_first (bytes_of g) c.args.leaf.now (not-others c.args.leaf.now c.in_default.not-Blank c.in_default.not-Paragraph))))
    c.push_block.ensures.html

-- what definitions bring to a leaf that is neither a blank line nor a paragraph
abbrev same : (g : Given) (first : Bool) (l : Leaf) → begins_line l ≡ true
    → leaf_brought (leaf_setting (setting_of g) first (leaf_of (bytes_of g) l)) (page_of g) (leaf_of (bytes_of g) l) ≡ block_brought (leaf_setting (setting_of g) first (leaf_of (bytes_of g) l)) (page_of g) (leaf_of (bytes_of g) l)
same g first l e = other-brought (leaf_setting (setting_of g) first (leaf_of (bytes_of g) l)) (page_of g) (bytes_of g) l e

pub returns-in_ok-push_line_start-in_default-clause-spent : goal.returns-in_ok-push_line_start-in_default-clause-spent
returns-in_ok-push_line_start-in_default-clause-spent c =
    subst (λ (n : ℕ). OnOk c.push_block.result (IsSpent c.args.left.now n c.push_block.new.left)) (sym (same c.args.given.now c.args.at.is_first c.args.leaf.now (not-others c.args.leaf.now c.in_default.not-Blank c.in_default.not-Paragraph))) c.push_block.ensures.spent

pub returns-in_ok-push_line_start-in_default-clause-stop : goal.returns-in_ok-push_line_start-in_default-clause-stop
returns-in_ok-push_line_start-in_default-clause-stop c =
    subst (λ (n : ℕ). IfErr c.push_block.result (IsStop c.args.left.now n)) (sym (same c.args.given.now c.args.at.is_first c.args.leaf.now (not-others c.args.leaf.now c.in_default.not-Blank c.in_default.not-Paragraph))) c.push_block.ensures.stop
