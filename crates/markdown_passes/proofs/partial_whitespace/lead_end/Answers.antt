use Rattle.std.proofs.Common.{◌∙◌, sym}
use Rattle.markdown_passes.proofs.TrimWalks.{IsBegun, IsEnded, begun-where, ended-where, shorter, stretch-next, lead-next, lead-stop, lead-end}
use Rattle.markdown_passes.proofs.partial_whitespace.lead_end.Goals as goal

pub is_blank-requires-clause-begins : goal.is_blank-requires-clause-begins
is_blank-requires-clause-begins c =
    (begun-where c.args.bytes.now c.loop-to.point c.args.to c.loop-to.invariant.0 (sym c.is_same_place.ensures ∙ c.loop-to-test.true)).in_bytes

pub past_code-point-requires-clause-begins : goal.past_code-point-requires-clause-begins
past_code-point-requires-clause-begins c =
    (begun-where c.args.bytes.now c.loop-to.point c.args.to c.loop-to.invariant.0 (sym c.is_same_place.ensures ∙ c.loop-to-test.true)).in_bytes

pub loop-to-smaller : goal.loop-to-smaller
loop-to-smaller c =
    let b : IsBegun c.args.bytes.now c.loop-to.point c.args.to = begun-where c.args.bytes.now c.loop-to.point c.args.to c.loop-to.invariant.0 (sym c.is_same_place.ensures ∙ c.loop-to-test.true) in
    shorter c.args.bytes.now c.loop-to.point c.args.to c.past_code-point.result b c.past_code-point.ensures.next

pub loop-to-preserved : goal.loop-to-preserved
loop-to-preserved c =
    let b : IsBegun c.args.bytes.now c.loop-to.point c.args.to = begun-where c.args.bytes.now c.loop-to.point c.args.to c.loop-to.invariant.0 (sym c.is_same_place.ensures ∙ c.loop-to-test.true) in
    (stretch-next c.args.bytes.now c.loop-to.point c.args.to c.past_code-point.result b c.past_code-point.ensures.next, sym (lead-next c.args.bytes.now c.loop-to.point c.args.to c.past_code-point.result c.is_blank.result b c.past_code-point.ensures.next c.is_blank.ensures c.if-is_blank.true) ∙ c.loop-to.invariant.1)

pub returns-else-is_blank : goal.returns-else-is_blank
returns-else-is_blank c =
    let b : IsBegun c.args.bytes.now c.loop-to.point c.args.to = begun-where c.args.bytes.now c.loop-to.point c.args.to c.loop-to.invariant.0 (sym c.is_same_place.ensures ∙ c.loop-to-test.true) in
    sym (lead-stop c.args.bytes.now c.loop-to.point c.args.to c.is_blank.result b c.is_blank.ensures c.if-is_blank.false) ∙ c.loop-to.invariant.1

pub returns-after-loop-to : goal.returns-after-loop-to
returns-after-loop-to c =
    let e : IsEnded c.args.bytes.now c.loop-to.point c.args.to = ended-where c.args.bytes.now c.loop-to.point c.args.to c.loop-to.invariant.0 (sym c.is_same_place.ensures ∙ c.loop-to-test.false) in
    sym (lead-end c.args.bytes.now c.loop-to.point c.args.to e) ∙ c.loop-to.invariant.1
