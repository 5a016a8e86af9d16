use Rattle.std.proofs.Common.{◌≡◌, ◌+◌, ◌∙◌, refl, ap, sym, arith, List, [], take, drop, length, false, Some, drop-drop}
use Rattle.markdown_content.specs.Codes.{Code}
use Rattle.markdown_model.specs.CodeTests.{is_between}
use Rattle.markdown_block_model.specs.LineRests.{indent}
use Rattle.markdown_block_model.specs.BlockTree.{heading, fenced_code, item}
use Rattle.markdown_block_model.specs.BlockStarts.{leaf_begins, container_begins}
use Rattle.markdown_block_line.specs.LineStarts.{heading_start, fence_start}
use Rattle.markdown_block_line.specs.LineBlocks.{marker_of, fence_of}
use Rattle.markdown_block_line.proofs.RestValues.{rest-values, trimmed-drop, values-length, codes_with, values-of-codes}
use Rattle.markdown_block_line.proofs.BlocksBegin.{begun-code, begun-first}
use Rattle.markdown_block_line.proofs.begins.begun_at.Goals as goal

pub returns-then-columns-eq4-clause-found : goal.returns-then-columns-eq4-clause-found
returns-then-columns-eq4-clause-found c = λ cs h.
    begun-code c.args.extensions c.args.in_paragraph c.args.after_text cs c.indent_to-columns.result (c.indent_to-columns.ensures.count cs h) c.if-columns-eq4.true c.if-after_text.false
    (sym (c.is_blank_line.ensures cs h) ∙ c.if-is_blank_line.false)

pub returns-in-Some-heading_at-clause-found : goal.returns-in-Some-heading_at-clause-found
returns-in-Some-heading_at-clause-found c = λ cs h.
    let k = c.indent_to-columns.result in
    let s = c.in-Some-heading_at.heading in
    begun-first c.args.extensions c.args.in_paragraph c.args.after_text cs k _ _ _ _ _ _ (c.indent_to-columns.ensures.count cs h) c.if-columns-eq4.false (c.in_default.ensures.found cs h)
    (c.in-Some-heading_at.ensures.found (drop k cs) (rest-values k cs c.args.line.now h)) refl refl refl refl
    ∙ ap (λ (r : List Code). Some (leaf_begins (heading s.level (take s.len r)))) (drop-drop s.start k cs)

pub returns-in-Some-fence_at-clause-found : goal.returns-in-Some-fence_at-clause-found
returns-in-Some-fence_at-clause-found c = λ cs h.
    let k = c.indent_to-columns.result in
    let s = c.in-Some-fence_at.fence in
    let r = rest-values k cs c.args.line.now h in
    begun-first c.args.extensions c.args.in_paragraph c.args.after_text cs k _ _ _ _ _ _ (c.indent_to-columns.ensures.count cs h) c.if-columns-eq4.false (c.in_default.ensures.found cs h)
    (c.in_default-heading_at.ensures.found (drop k cs) r) (c.in-Some-fence_at.ensures.found (drop k cs) r) refl refl refl
    ∙ ap (λ (r : List Code). Some (leaf_begins (fenced_code (fence_of s.fence) (take s.len r) [] false))) (drop-drop s.start k cs)

pub returns-in-Some-html_at-clause-found : goal.returns-in-Some-html_at-clause-found
returns-in-Some-html_at-clause-found c = λ cs h.
    let k = c.indent_to-columns.result in
    let r = rest-values k cs c.args.line.now h in
    begun-first c.args.extensions c.args.in_paragraph c.args.after_text cs k _ _ _ _ _ _ (c.indent_to-columns.ensures.count cs h) c.if-columns-eq4.false (c.in_default.ensures.found cs h)
    (c.in_default-heading_at.ensures.found (drop k cs) r) (c.in_default-fence_at.ensures.found (drop k cs) r) (c.in-Some-html_at.ensures cs h) refl refl

pub returns-then-contains-clause-found : goal.returns-then-contains-clause-found
returns-then-contains-clause-found c = λ cs h.
    let k = c.indent_to-columns.result in
    let r = rest-values k cs c.args.line.now h in
    let l = sym (values-length (drop k cs)) ∙ ap length r in
    begun-first c.args.extensions c.args.in_paragraph c.args.after_text cs k _ _ _ _ _ _ (c.indent_to-columns.ensures.count cs h) c.if-columns-eq4.false (c.in_default.ensures.found cs h)
    (c.in_default-heading_at.ensures.found (drop k cs) r) (c.in_default-fence_at.ensures.found (drop k cs) r) (c.in_default-html_at.ensures cs h)
    (c.requires cs k h ∙ ap (is_between c.args.breaks.least c.args.breaks.most) l ∙ sym c.contains.ensures ∙ c.if-contains.true) refl

pub item_at-requires : goal.item_at-requires
item_at-requires c = omega (arith, c.if-columns-eq4.false, c.indent_to-columns.ensures.count (codes_with c.args.line.now) (values-of-codes c.args.line.now))

pub returns-in_default-item_at-clause-found : goal.returns-in_default-item_at-clause-found
returns-in_default-item_at-clause-found c = λ cs h.
    let k = c.indent_to-columns.result in
    let r = rest-values k cs c.args.line.now h in
    let l = sym (values-length (drop k cs)) ∙ ap length r in
    begun-first c.args.extensions c.args.in_paragraph c.args.after_text cs k _ _ _ _ _ _ (c.indent_to-columns.ensures.count cs h) c.if-columns-eq4.false (c.in_default.ensures.found cs h)
    (c.in_default-heading_at.ensures.found (drop k cs) r) (c.in_default-fence_at.ensures.found (drop k cs) r) (c.in_default-html_at.ensures cs h)
    (c.requires cs k h ∙ ap (is_between c.args.breaks.least c.args.breaks.most) l ∙ sym c.contains.ensures ∙ c.if-contains.false) (c.in_default-item_at.ensures.found (drop k cs) r)

pub returns-clause-found : goal.returns-clause-found
returns-clause-found c = λ cs h.
    let k = c.indent_to-columns.result in
    let s = c.in-Some-item_at.item in
    let r = rest-values k cs c.args.line.now h in
    let l = sym (values-length (drop k cs)) ∙ ap length r in
    begun-first c.args.extensions c.args.in_paragraph c.args.after_text cs k _ _ _ _ _ _ (c.indent_to-columns.ensures.count cs h) c.if-columns-eq4.false (c.in_default.ensures.found cs h)
    (c.in_default-heading_at.ensures.found (drop k cs) r) (c.in_default-fence_at.ensures.found (drop k cs) r) (c.in_default-html_at.ensures cs h)
    (c.requires cs k h ∙ ap (is_between c.args.breaks.least c.args.breaks.most) l ∙ sym c.contains.ensures ∙ c.if-contains.false) (c.in-Some-item_at.ensures.found (drop k cs) r)
    ∙ ap (λ (d : List Code). Some (container_begins (item (marker_of s.marker) s.columns) d)) (drop-drop s.outside k cs)

pub returns-in-Some-heading_at-clause-start : goal.returns-in-Some-heading_at-clause-start
returns-in-Some-heading_at-clause-start c = λ cs h.
    let k = c.indent_to-columns.result in
    let e : k ≡ indent cs = omega (arith, c.indent_to-columns.ensures.count cs h, c.if-columns-eq4.false) in
    ap (λ i. k + i) (c.in-Some-heading_at.ensures.start (drop k cs) (rest-values k cs c.args.line.now h)) ∙ ap (λ j. j + heading_start (drop j cs)) e ∙ ap (λ (r : List Code). indent cs + heading_start r) (sym (trimmed-drop cs))

pub returns-in-Some-fence_at-clause-start : goal.returns-in-Some-fence_at-clause-start
returns-in-Some-fence_at-clause-start c = λ cs h.
    let k = c.indent_to-columns.result in
    let e : k ≡ indent cs = omega (arith, c.indent_to-columns.ensures.count cs h, c.if-columns-eq4.false) in
    ap (λ i. k + i) (c.in-Some-fence_at.ensures.start (drop k cs) (rest-values k cs c.args.line.now h)) ∙ ap (λ j. j + fence_start (drop j cs)) e ∙ ap (λ (r : List Code). indent cs + fence_start r) (sym (trimmed-drop cs))
