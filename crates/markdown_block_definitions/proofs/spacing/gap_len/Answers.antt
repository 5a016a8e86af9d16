use Rattle.std.proofs.Common.{ℕ, List, drop, ◌∙◌, ◌+◌, arith}
use Rattle.markdown_block_line.proofs.RestValues.{rest-values}
use Rattle.markdown_block_definitions.proofs.GapRests.{gap-across, gap-not, gap-line, gap-none, filled-end, ends-here, goes-on}
use Rattle.markdown_block_definitions.proofs.spacing.gap_len.Goals as goal

pub returns-then-len-values-clause-read : goal.returns-then-len-values-clause-read
returns-then-len-values-clause-read c = λ cs h.
    let n = c.indent-blanks.result in
    let m = c.indent.result in
    gap-not cs n (c.indent-blanks.ensures.count cs h) m (c.indent.ensures.count (drop (n + 1) cs) (rest-values (n + 1) cs c.args.values.now h)) (c.begins_with.ensures.first (drop n cs) (rest-values n cs c.args.values.now h) ∙ c.if-begins_with.true)
    (filled-end cs c.args.values.now (n + 1 + m) h (omega (arith, c.if-len-values.true)))

pub returns-then-values-len-eq10-clause-read : goal.returns-then-values-len-eq10-clause-read
returns-then-values-len-eq10-clause-read c = λ cs h.
    let n = c.indent-blanks.result in
    let m = c.indent.result in
    let vs : List ℕ = c.args.values.now in
    gap-not cs n (c.indent-blanks.ensures.count cs h) m (c.indent.ensures.count (drop (n + 1) cs) (rest-values (n + 1) cs vs h)) (c.begins_with.ensures.first (drop n cs) (rest-values n cs vs h) ∙ c.if-begins_with.true)
    (ends-here cs vs (n + 1 + m) _ h (omega (arith, c.if-len-values.false, c.indent.ensures.within, c.begins_with.ensures.within, c.if-begins_with.true)) c.if-values-len-eq10.true)

pub returns-then-begins_with-clause-read : goal.returns-then-begins_with-clause-read
returns-then-begins_with-clause-read c = λ cs h.
    let n = c.indent-blanks.result in
    let m = c.indent.result in
    let vs : List ℕ = c.args.values.now in
    gap-across cs n (c.indent-blanks.ensures.count cs h) m (c.indent.ensures.count (drop (n + 1) cs) (rest-values (n + 1) cs vs h)) (c.begins_with.ensures.first (drop n cs) (rest-values n cs vs h) ∙ c.if-begins_with.true)
    (goes-on cs vs (n + 1 + m) _ h (omega (arith, c.if-len-values.false, c.indent.ensures.within, c.begins_with.ensures.within, c.if-begins_with.true)) c.if-values-len-eq10.false)

pub returns-then-blanks-eq0-clause-read : goal.returns-then-blanks-eq0-clause-read
returns-then-blanks-eq0-clause-read c = λ cs h.
    let n = c.indent-blanks.result in
    gap-none cs n (c.indent-blanks.ensures.count cs h) (c.begins_with.ensures.first (drop n cs) (rest-values n cs c.args.values.now h) ∙ c.if-begins_with.false) c.if-blanks-eq0.true

pub returns-clause-read : goal.returns-clause-read
returns-clause-read c = λ cs h.
    let n = c.indent-blanks.result in
    gap-line cs n (c.indent-blanks.ensures.count cs h) (c.begins_with.ensures.first (drop n cs) (rest-values n cs c.args.values.now h) ∙ c.if-begins_with.false) (omega (arith, c.if-blanks-eq0.false))
