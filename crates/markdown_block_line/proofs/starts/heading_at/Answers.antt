use Rattle.std.proofs.Common.{◌∙◌, ◌+◌, sym, ap, drop}
use Rattle.markdown_block_model.specs.LineRests.{indent}
use Rattle.markdown_block_line.proofs.RestValues.{rest-values}
use Rattle.markdown_block_line.proofs.RestStarts.{heading-apart, heading-here}
use Rattle.markdown_block_line.proofs.starts.heading_at.Goals as goal

pub returns-then-not-is_gap-clause-found : goal.returns-then-not-is_gap-clause-found
returns-then-not-is_gap-clause-found c = λ cs h.
    let k = c.count_first-level.result in
    heading-apart cs k (c.count_first-level.ensures.count cs h) (sym (c.is_gap.ensures (drop k cs) (rest-values k cs c.args.line.now h)) ∙ c.if-not-is_gap.true)

pub returns-clause-found : goal.returns-clause-found
returns-clause-found c = λ cs h.
    let k = c.count_first-level.result in
    let i = c.indent.result in
    heading-here cs k i c.heading_len-len.result (c.count_first-level.ensures.count cs h) c.if-level-eq0.false c.if-level-gt6.false
    (sym (c.is_gap.ensures (drop k cs) (rest-values k cs c.args.line.now h)) ∙ c.if-not-is_gap.false)
    (c.indent.ensures.count (drop k cs) (rest-values k cs c.args.line.now h))
    (c.heading_len-len.ensures.same (drop (k + i) cs) (rest-values (k + i) cs c.args.line.now h))

pub returns-clause-start : goal.returns-clause-start
returns-clause-start c = λ cs h.
    let k = c.count_first-level.result in
    let e = c.count_first-level.ensures.count cs h in
    ap (λ i. k + i) (c.indent.ensures.count (drop k cs) (rest-values k cs c.args.line.now h)) ∙ ap (λ j. j + indent (drop j cs)) e
