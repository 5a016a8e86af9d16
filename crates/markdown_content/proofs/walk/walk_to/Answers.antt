use Rattle.std.proofs.Common.{refl}
use Rattle.markdown_content.specs.DocumentWalk.{next_point}
use Rattle.markdown_content.proofs.WalkSteps.{stride_test, IsStride}
use Rattle.markdown_content.proofs.walk.walk_to.Goals as goal

pub past_code-point-requires-clause-begins : goal.past_code-point-requires-clause-begins
past_code-point-requires-clause-begins c =
    (stride_test c.args.bytes.now c.loop-place.point (next_point c.args.bytes.now c.loop-place.point) c.args.place c.ne.result c.loop-place.invariant c.requires.is_place c.ne.ensures c.loop-place-test.true refl).in_bytes

pub loop-place-smaller : goal.loop-place-smaller
loop-place-smaller c =
    (stride_test c.args.bytes.now c.loop-place.point c.past_code-point.result c.args.place c.ne.result c.loop-place.invariant c.requires.is_place c.ne.ensures c.loop-place-test.true c.past_code-point.ensures.next).less

pub loop-place-preserved : goal.loop-place-preserved
loop-place-preserved c =
    let s : IsStride c.args.bytes.now c.loop-place.point c.past_code-point.result c.args.place =
    stride_test c.args.bytes.now c.loop-place.point c.past_code-point.result c.args.place c.ne.result c.loop-place.invariant c.requires.is_place c.ne.ensures c.loop-place-test.true c.past_code-point.ensures.next in
    (s.point, s.forward)
