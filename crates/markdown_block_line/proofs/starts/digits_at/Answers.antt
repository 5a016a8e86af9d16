use Rattle.std.proofs.Common.{◌≡◌, ◌∙◌, ◌≤◌, ◌-◌, ◌+◌, ◌*◌, suc, sym, arith, get_or, ap}
use Rattle.markdown_block_line.specs.LineValues.{front, is_digit_value}
use Rattle.markdown_block_line.proofs.RestValues.{front-stops, front-more, front-le}
use Rattle.markdown_block_line.proofs.RestNumbers.{power-fits, power-more, digit-range, number-more}
use Rattle.markdown_block_line.proofs.starts.digits_at.Goals as goal

pub returns-then-not-is_digit-clause-count : goal.returns-then-not-is_digit-clause-count
returns-then-not-is_digit-clause-count c =
    let e : front is_digit_value c.args.line.now ≡ c.loop-count.count = front-stops is_digit_value c.args.line.now c.loop-count.count 0 c.if-count-line.true c.loop-count.invariant.passed (sym c.is_digit.ensures ∙ c.if-not-is_digit.true) in
    omega (arith, e)

pub overflow_add-number : goal.overflow_add-number
overflow_add-number c =
    let r = digit-range (get_or c.args.line.now c.loop-count.count 0) (sym c.is_digit.ensures ∙ c.if-not-is_digit.false) in
    let f : c.from.result ≡ get_or c.args.line.now c.loop-count.count 0 - 48 = c.from.ensures in
    omega (arith, r.0, r.1, f, c.loop-count.invariant.bound, power-fits c.loop-count.count c.loop-count-test.true)

pub loop-count-preserved : goal.loop-count-preserved
loop-count-preserved c =
    let k = c.loop-count.count in
    let t = sym c.is_digit.ensures ∙ c.if-not-is_digit.false in
    let r = digit-range (get_or c.args.line.now k 0) t in
    let f : c.from.result ≡ get_or c.args.line.now k 0 - 48 = c.from.ensures in
    let e : suc k ≤ front is_digit_value c.args.line.now = front-more is_digit_value c.args.line.now k 0 c.if-count-line.true c.loop-count.invariant.passed t in
    record {
      most = omega arith;
      passed = omega (arith, e);
      bound = omega (arith, r.0, r.1, f, c.loop-count.invariant.bound, power-more k);
      same = ap (λ j. c.loop-count.number * 10 + j) f ∙ number-more c.args.line.now k 0 c.loop-count.number c.if-count-line.true c.loop-count.invariant.same;
    }

pub returns-else-count-line-clause-count : goal.returns-else-count-line-clause-count
returns-else-count-line-clause-count c = omega (arith, c.loop-count.invariant.passed, c.loop-count.invariant.most, c.if-count-line.false, front-le is_digit_value c.args.line.now)

pub returns-else-count-line-clause-within : goal.returns-else-count-line-clause-within
returns-else-count-line-clause-within c = omega (arith, front-le is_digit_value c.args.line.now, c.loop-count.invariant.passed)

pub returns-after-loop-count-clause-count : goal.returns-after-loop-count-clause-count
returns-after-loop-count-clause-count c = omega (arith, c.loop-count.invariant.passed, c.loop-count.invariant.most, c.loop-count-test.false)

pub returns-after-loop-count-clause-within : goal.returns-after-loop-count-clause-within
returns-after-loop-count-clause-within c = omega (arith, front-le is_digit_value c.args.line.now, c.loop-count.invariant.passed)
