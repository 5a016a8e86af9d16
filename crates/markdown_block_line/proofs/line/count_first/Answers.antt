use Rattle.std.proofs.Common.{◌≡◌, ◌≤◌, suc, arith}
use Rattle.std.specs.Prelude.{◌==◌}
use Rattle.std.proofs.lemmas.Bool.Decides.{nat_tests}
use Rattle.markdown_block_line.specs.LineValues.{front}
use Rattle.markdown_block_line.proofs.RestValues.{first-of, front-stops, front-more, front-le}
use Rattle.markdown_block_line.proofs.line.count_first.Goals as goal

pub returns-then-line-count-clause-count : goal.returns-then-line-count-clause-count
returns-then-line-count-clause-count c = λ cs h.
    let e : front (λ v. v == c.args.value) c.args.line.now ≡ c.loop-count.count = front-stops (λ v. v == c.args.value) c.args.line.now c.loop-count.count 0 c.loop-count-test.true c.loop-count.invariant.passed (grind (arith, nat_tests, c.if-line-count.true)) in
    omega (arith, e, first-of c.args.value cs c.args.line.now h)

pub loop-count-preserved : goal.loop-count-preserved
loop-count-preserved c =
    let e : suc c.loop-count.count ≤ front (λ v. v == c.args.value) c.args.line.now = front-more (λ v. v == c.args.value) c.args.line.now c.loop-count.count 0 c.loop-count-test.true c.loop-count.invariant.passed (grind (arith, nat_tests, c.if-line-count.false)) in
    record { passed = omega (arith, e) }

pub returns-clause-count : goal.returns-clause-count
returns-clause-count c = λ cs h. omega (arith, c.loop-count.invariant.passed, c.loop-count-test.false, front-le (λ v. v == c.args.value) c.args.line.now, first-of c.args.value cs c.args.line.now h)

pub returns-clause-within : goal.returns-clause-within
returns-clause-within c = omega (arith, front-le (λ v. v == c.args.value) c.args.line.now, c.loop-count.invariant.passed)
