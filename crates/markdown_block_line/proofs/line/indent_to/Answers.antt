use Rattle.std.proofs.Common.{◌≡◌, ◌∙◌, ◌≤◌, suc, sym, arith}
use Rattle.markdown_block_line.specs.LineValues.{is_blank_value, front}
use Rattle.markdown_block_line.proofs.RestValues.{indent-of, front-stops, front-more, front-le}
use Rattle.markdown_block_line.proofs.line.indent_to.Goals as goal

pub returns-then-not-is_blank-clause-count : goal.returns-then-not-is_blank-clause-count
returns-then-not-is_blank-clause-count c = λ cs h.
    let e : front is_blank_value c.args.line.now ≡ c.loop-count.count = front-stops is_blank_value c.args.line.now c.loop-count.count _ c.if-count-line.true c.loop-count.invariant.passed (sym c.is_blank.ensures ∙ c.if-not-is_blank.true) in
    omega (arith, e, indent-of cs c.args.line.now h)

pub loop-count-preserved : goal.loop-count-preserved
loop-count-preserved c =
    let e : suc c.loop-count.count ≤ front is_blank_value c.args.line.now = front-more is_blank_value c.args.line.now c.loop-count.count _ c.if-count-line.true c.loop-count.invariant.passed (sym c.is_blank.ensures ∙ c.if-not-is_blank.false) in
    record { most = omega arith; passed = omega (arith, e) }

pub returns-else-count-line-clause-count : goal.returns-else-count-line-clause-count
returns-else-count-line-clause-count c = λ cs h. omega (arith, c.loop-count.invariant.passed, front-le is_blank_value c.args.line.now, indent-of cs c.args.line.now h)

pub returns-else-count-line-clause-within : goal.returns-else-count-line-clause-within
returns-else-count-line-clause-within c = omega (arith, front-le is_blank_value c.args.line.now, c.loop-count.invariant.passed)

pub returns-after-loop-count-clause-count : goal.returns-after-loop-count-clause-count
returns-after-loop-count-clause-count c = λ cs h. omega (arith, c.loop-count.invariant.passed, indent-of cs c.args.line.now h)

pub returns-after-loop-count-clause-within : goal.returns-after-loop-count-clause-within
returns-after-loop-count-clause-within c = omega (arith, front-le is_blank_value c.args.line.now, c.loop-count.invariant.passed)
