use Rattle.std.proofs.Common.{◌∙◌, sym, ap}
use Rattle.std.specs.List.{list_all}
use Rattle.markdown_model.specs.CodeTests.{is_real_space}
use Rattle.markdown_passes.proofs.TrimWalks.{IsBegun, IsEnded, begun-where, ended-where, shorter, stretch-next, all-next, all-stop}
use Rattle.markdown_passes.proofs.partial_whitespace.are_spaces.Goals as goal

pub is_real_space-requires-clause-begins : goal.is_real_space-requires-clause-begins
is_real_space-requires-clause-begins c =
    (begun-where c.args.bytes.now c.loop-to.point c.args.to c.loop-to.invariant.0 (sym c.is_same_place.ensures ∙ c.loop-to-test.true)).in_bytes

pub returns-then-not-is_real_space : goal.returns-then-not-is_real_space
returns-then-not-is_real_space c =
    let b : IsBegun c.args.bytes.now c.loop-to.point c.args.to = begun-where c.args.bytes.now c.loop-to.point c.args.to c.loop-to.invariant.0 (sym c.is_same_place.ensures ∙ c.loop-to-test.true) in
    sym (sym c.loop-to.invariant.1 ∙ all-stop c.args.bytes.now c.loop-to.point c.args.to c.is_real_space.result b c.is_real_space.ensures c.if-not-is_real_space.true)

pub past_code-point-requires-clause-begins : goal.past_code-point-requires-clause-begins
past_code-point-requires-clause-begins c =
    (begun-where c.args.bytes.now c.loop-to.point c.args.to c.loop-to.invariant.0 (sym c.is_same_place.ensures ∙ c.loop-to-test.true)).in_bytes

pub loop-to-smaller : goal.loop-to-smaller
loop-to-smaller c =
    let b : IsBegun c.args.bytes.now c.loop-to.point c.args.to = begun-where c.args.bytes.now c.loop-to.point c.args.to c.loop-to.invariant.0 (sym c.is_same_place.ensures ∙ c.loop-to-test.true) in
    shorter c.args.bytes.now c.loop-to.point c.args.to c.past_code-point.result b c.past_code-point.ensures.next

pub loop-to-preserved : goal.loop-to-preserved
loop-to-preserved c =
    let b : IsBegun c.args.bytes.now c.loop-to.point c.args.to = begun-where c.args.bytes.now c.loop-to.point c.args.to c.loop-to.invariant.0 (sym c.is_same_place.ensures ∙ c.loop-to-test.true) in (
      stretch-next c.args.bytes.now c.loop-to.point c.args.to c.past_code-point.result b c.past_code-point.ensures.next,
      all-next c.args.bytes.now c.loop-to.point c.args.to c.past_code-point.result c.is_real_space.result b c.past_code-point.ensures.next c.is_real_space.ensures c.if-not-is_real_space.false ∙ c.loop-to.invariant.1,
    )

pub returns : goal.returns
returns c =
    let e : IsEnded c.args.bytes.now c.loop-to.point c.args.to = ended-where c.args.bytes.now c.loop-to.point c.args.to c.loop-to.invariant.0 (sym c.is_same_place.ensures ∙ c.loop-to-test.false) in
    sym (sym c.loop-to.invariant.1 ∙ ap (list_all is_real_space) e.none)
