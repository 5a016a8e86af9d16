use Rattle.std.proofs.Common.{◌∙◌, ◌≤◌, suc, sym, arith}
use Rattle.markdown_block_line.specs.LineValues.{front}
use Rattle.markdown_block_line.specs.LineTags.{in_class}
use Rattle.markdown_block_line.proofs.RestValues.{front-stops, front-more, front-le}
use Rattle.markdown_block_line.proofs.tags.count_in.Goals as goal

pub returns-then-not-is_in-clause-count : goal.returns-then-not-is_in-clause-count
returns-then-not-is_in-clause-count c = sym (front-stops (in_class c.args.class) c.args.line.now c.loop-count.count _ c.loop-count-test.true c.loop-count.invariant.passed (sym c.is_in.ensures ∙ c.if-not-is_in.true))

pub loop-count-preserved : goal.loop-count-preserved
loop-count-preserved c =
    let e : suc c.loop-count.count ≤ front (in_class c.args.class) c.args.line.now = front-more (in_class c.args.class) c.args.line.now c.loop-count.count _ c.loop-count-test.true c.loop-count.invariant.passed (sym c.is_in.ensures ∙ c.if-not-is_in.false) in
    record { passed = omega (arith, e) }

pub returns-clause-count : goal.returns-clause-count
returns-clause-count c = omega (arith, c.loop-count.invariant.passed, c.loop-count-test.false, front-le (in_class c.args.class) c.args.line.now)

pub returns-clause-within : goal.returns-clause-within
returns-clause-within c = omega (arith, front-le (in_class c.args.class) c.args.line.now, c.loop-count.invariant.passed)
