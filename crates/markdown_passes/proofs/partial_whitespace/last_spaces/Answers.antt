use Rattle.std.proofs.Common.{◌+◌, ◌∙◌, sym, ap, arith, if◌then◌else◌}
use Rattle.markdown_passes.proofs.TrimmedLeaves.{spaces-are}
use Rattle.markdown_passes.proofs.TrimWalks.{IsBegun, IsEnded, begun-where, ended-where, shorter, stretch-next, few-between, counted-next, spaces_after, spaces-next}
use Rattle.markdown_passes.specs.TrimmedData.{between}
use Rattle.markdown_passes.proofs.partial_whitespace.last_spaces.Goals as goal

pub is_real_space-space-requires-clause-begins : goal.is_real_space-space-requires-clause-begins
is_real_space-space-requires-clause-begins c =
    (begun-where c.args.bytes.now c.loop-to.point c.args.to c.loop-to.invariant.0 (sym c.is_same_place.ensures ∙ c.loop-to-test.true)).in_bytes

pub past_code-point-requires-clause-begins : goal.past_code-point-requires-clause-begins
past_code-point-requires-clause-begins c =
    (begun-where c.args.bytes.now c.loop-to.point c.args.to c.loop-to.invariant.0 (sym c.is_same_place.ensures ∙ c.loop-to-test.true)).in_bytes

pub overflow_add-spaces : goal.overflow_add-spaces
overflow_add-spaces c =
    let b : IsBegun c.args.bytes.now c.loop-to.point c.args.to = begun-where c.args.bytes.now c.loop-to.point c.args.to c.loop-to.invariant.0 (sym c.is_same_place.ensures ∙ c.loop-to-test.true) in
    let one = counted-next c.args.bytes.now c.loop-to.point c.args.to c.past_code-point.result c.loop-to.spaces b c.past_code-point.ensures.next in
    let few = few-between c.args.bytes.now c.args.from c.args.to in
    omega (arith, one, few, c.loop-to.invariant.1, c.requires.fits)

pub loop-to-smaller-then-not-space : goal.loop-to-smaller-then-not-space
loop-to-smaller-then-not-space c =
    let b : IsBegun c.args.bytes.now c.loop-to.point c.args.to = begun-where c.args.bytes.now c.loop-to.point c.args.to c.loop-to.invariant.0 (sym c.is_same_place.ensures ∙ c.loop-to-test.true) in
    shorter c.args.bytes.now c.loop-to.point c.args.to c.past_code-point.result b c.past_code-point.ensures.next

pub loop-to-preserved-then-not-space : goal.loop-to-preserved-then-not-space
loop-to-preserved-then-not-space c =
    let b : IsBegun c.args.bytes.now c.loop-to.point c.args.to = begun-where c.args.bytes.now c.loop-to.point c.args.to c.loop-to.invariant.0 (sym c.is_same_place.ensures ∙ c.loop-to-test.true) in
    let one = counted-next c.args.bytes.now c.loop-to.point c.args.to c.past_code-point.result c.loop-to.spaces b c.past_code-point.ensures.next in
    let left = between c.args.bytes.now c.past_code-point.result c.args.to in (
      stretch-next c.args.bytes.now c.loop-to.point c.args.to c.past_code-point.result b c.past_code-point.ensures.next,
      omega (arith, one, c.loop-to.invariant.1),
      ap (λ t. spaces_after (if t then c.loop-to.spaces + 1 else 0) left) (sym c.if-not-space.true)
          ∙ spaces-next c.args.bytes.now c.loop-to.point c.args.to c.past_code-point.result c.loop-to.spaces c.is_real_space-space.result b c.past_code-point.ensures.next c.is_real_space-space.ensures
          ∙ c.loop-to.invariant.2,
    )

pub loop-to-smaller : goal.loop-to-smaller
loop-to-smaller c =
    let b : IsBegun c.args.bytes.now c.loop-to.point c.args.to = begun-where c.args.bytes.now c.loop-to.point c.args.to c.loop-to.invariant.0 (sym c.is_same_place.ensures ∙ c.loop-to-test.true) in
    shorter c.args.bytes.now c.loop-to.point c.args.to c.past_code-point.result b c.past_code-point.ensures.next

pub loop-to-preserved : goal.loop-to-preserved
loop-to-preserved c =
    let b : IsBegun c.args.bytes.now c.loop-to.point c.args.to = begun-where c.args.bytes.now c.loop-to.point c.args.to c.loop-to.invariant.0 (sym c.is_same_place.ensures ∙ c.loop-to-test.true) in
    let one = counted-next c.args.bytes.now c.loop-to.point c.args.to c.past_code-point.result c.loop-to.spaces b c.past_code-point.ensures.next in
    let left = between c.args.bytes.now c.past_code-point.result c.args.to in (
      stretch-next c.args.bytes.now c.loop-to.point c.args.to c.past_code-point.result b c.past_code-point.ensures.next,
      omega (arith, one, c.loop-to.invariant.1),
      ap (λ t. spaces_after (if t then c.loop-to.spaces + 1 else 0) left) (sym c.if-not-space.false)
          ∙ spaces-next c.args.bytes.now c.loop-to.point c.args.to c.past_code-point.result c.loop-to.spaces c.is_real_space-space.result b c.past_code-point.ensures.next c.is_real_space-space.ensures
          ∙ c.loop-to.invariant.2,
    )

pub returns : goal.returns
returns c =
    let e : IsEnded c.args.bytes.now c.loop-to.point c.args.to = ended-where c.args.bytes.now c.loop-to.point c.args.to c.loop-to.invariant.0 (sym c.is_same_place.ensures ∙ c.loop-to-test.false) in
    ap (spaces_after c.loop-to.spaces) (sym e.none) ∙ c.loop-to.invariant.2 ∙ spaces-are (between c.args.bytes.now c.args.from c.args.to)
