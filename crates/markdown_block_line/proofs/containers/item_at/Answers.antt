use Rattle.std.proofs.Common.{◌∙◌, sym, drop}
use Rattle.markdown_block_line.specs.LineBlocks.{marker_of}
use Rattle.markdown_block_line.proofs.RestValues.{rest-values}
use Rattle.markdown_block_line.proofs.RestContainers.{item-not, item-here}
use Rattle.markdown_block_line.proofs.containers.item_at.Goals as goal

pub returns-then-not-may_begin-clause-found : goal.returns-then-not-may_begin-clause-found
returns-then-not-may_begin-clause-found c = λ cs h.
    let m = c.in-Some.found in
    item-not c.args.in_paragraph c.args.columns m.len (marker_of m.marker) cs (c.in-Some.ensures.found cs h)
    (sym (c.may_begin.ensures (drop m.len cs) (rest-values m.len cs c.args.line.now h)) ∙ c.if-not-may_begin.true)

pub returns-clause-found : goal.returns-clause-found
returns-clause-found c = λ cs h.
    let m = c.in-Some.found in
    let r = rest-values m.len cs c.args.line.now h in
    item-here c.args.in_paragraph c.args.columns m.len c.padding-padding.result c.indent_to.result (marker_of m.marker) cs (c.in-Some.ensures.found cs h)
    (sym (c.may_begin.ensures (drop m.len cs) r) ∙ c.if-not-may_begin.false) (c.padding-padding.ensures.count (drop m.len cs) r) (c.indent_to.ensures.count (drop m.len cs) r)
