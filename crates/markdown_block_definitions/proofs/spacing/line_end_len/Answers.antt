use Rattle.std.proofs.Common.{drop, ◌∙◌, arith}
use Rattle.markdown_block_line.proofs.RestValues.{rest-values}
use Rattle.markdown_block_definitions.proofs.GapRests.{ends-line, ends-text, ends-not, empty-end, empty-not}
use Rattle.markdown_block_definitions.proofs.spacing.line_end_len.Goals as goal

pub returns-then-begins_with-clause-read : goal.returns-then-begins_with-clause-read
returns-then-begins_with-clause-read c = λ cs h.
    let n = c.indent-blanks.result in
    ends-line cs n (c.indent-blanks.ensures.count cs h) (c.begins_with.ensures.first (drop n cs) (rest-values n cs c.args.values.now h) ∙ c.if-begins_with.true)

pub returns-then-blanks-values-clause-read : goal.returns-then-blanks-values-clause-read
returns-then-blanks-values-clause-read c = λ cs h.
    let n = c.indent-blanks.result in
    ends-text cs n (c.indent-blanks.ensures.count cs h) (c.begins_with.ensures.first (drop n cs) (rest-values n cs c.args.values.now h) ∙ c.if-begins_with.false) (empty-end cs c.args.values.now n h c.if-blanks-values.true)

pub returns-clause-read : goal.returns-clause-read
returns-clause-read c = λ cs h.
    let n = c.indent-blanks.result in
    ends-not cs n (c.indent-blanks.ensures.count cs h) (c.begins_with.ensures.first (drop n cs) (rest-values n cs c.args.values.now h) ∙ c.if-begins_with.false) (empty-not cs c.args.values.now n h (omega (arith, c.indent-blanks.ensures.within, c.if-blanks-values.false)))
