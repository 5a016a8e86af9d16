use Rattle.std.proofs.Common.{◌∙◌, refl, sym, drop, true, false}
use Rattle.markdown_block_model.specs.LeafStarts.{is_row_of}
use Rattle.markdown_block_line.proofs.RestValues.{rest-values}
use Rattle.markdown_block_line.proofs.RestStarts.{under-deep, under-rows}
use Rattle.markdown_block_line.proofs.starts.underline.Goals as goal

pub returns-then-columns-eq4 : goal.returns-then-columns-eq4
returns-then-columns-eq4 c = λ cs h. sym (under-deep cs c.indent_to-columns.result (c.indent_to-columns.ensures.count cs h) c.if-columns-eq4.true)

pub returns-then-is_row_of : goal.returns-then-is_row_of
returns-then-is_row_of c = λ cs h.
    let k = c.indent_to-columns.result in
    sym (under-rows cs k true (is_row_of 45 (drop k cs)) (c.indent_to-columns.ensures.count cs h) c.if-columns-eq4.false (sym c.if-is_row_of.true ∙ c.is_row_of.ensures (drop k cs) (rest-values k cs c.args.line.now h)) refl)

pub returns-then-is_row_of-2 : goal.returns-then-is_row_of-2
returns-then-is_row_of-2 c = λ cs h.
    let k = c.indent_to-columns.result in
    sym (under-rows cs k false true (c.indent_to-columns.ensures.count cs h) c.if-columns-eq4.false (sym c.if-is_row_of.false ∙ c.is_row_of.ensures (drop k cs) (rest-values k cs c.args.line.now h)) (sym c.if-is_row_of-2.true ∙ c.is_row_of-2.ensures (drop k cs) (rest-values k cs c.args.line.now h)))

pub returns : goal.returns
returns c = λ cs h.
    let k = c.indent_to-columns.result in
    sym (under-rows cs k false false (c.indent_to-columns.ensures.count cs h) c.if-columns-eq4.false (sym c.if-is_row_of.false ∙ c.is_row_of.ensures (drop k cs) (rest-values k cs c.args.line.now h)) (sym c.if-is_row_of-2.false ∙ c.is_row_of-2.ensures (drop k cs) (rest-values k cs c.args.line.now h)))
