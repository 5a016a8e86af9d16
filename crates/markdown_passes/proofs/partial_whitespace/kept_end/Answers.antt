use Rattle.std.proofs.Common.{◌∙◌, sym, ap}
use Rattle.markdown_passes.proofs.TrimmedLeaves.{last-is}
use Rattle.markdown_passes.proofs.TrimWalks.{IsBegun, IsEnded, begun-where, ended-where, shorter, stretch-next, last_kept, kept-same, kept-moved}
use Rattle.markdown_passes.specs.TrimmedData.{between}
use Rattle.markdown_passes.proofs.partial_whitespace.kept_end.Goals as goal

pub is_blank-blank-requires-clause-begins : goal.is_blank-blank-requires-clause-begins
is_blank-blank-requires-clause-begins c =
    (begun-where c.args.bytes.now c.loop-to.point c.args.to c.loop-to.invariant.0 (sym c.is_same_place.ensures ∙ c.loop-to-test.true)).in_bytes

pub past_code-point-requires-clause-begins : goal.past_code-point-requires-clause-begins
past_code-point-requires-clause-begins c =
    (begun-where c.args.bytes.now c.loop-to.point c.args.to c.loop-to.invariant.0 (sym c.is_same_place.ensures ∙ c.loop-to-test.true)).in_bytes

pub loop-to-smaller-then-not-blank : goal.loop-to-smaller-then-not-blank
loop-to-smaller-then-not-blank c =
    let b : IsBegun c.args.bytes.now c.loop-to.point c.args.to = begun-where c.args.bytes.now c.loop-to.point c.args.to c.loop-to.invariant.0 (sym c.is_same_place.ensures ∙ c.loop-to-test.true) in
    shorter c.args.bytes.now c.loop-to.point c.args.to c.past_code-point.result b c.past_code-point.ensures.next

pub loop-to-preserved-then-not-blank : goal.loop-to-preserved-then-not-blank
loop-to-preserved-then-not-blank c =
    let b : IsBegun c.args.bytes.now c.loop-to.point c.args.to = begun-where c.args.bytes.now c.loop-to.point c.args.to c.loop-to.invariant.0 (sym c.is_same_place.ensures ∙ c.loop-to-test.true) in
    (stretch-next c.args.bytes.now c.loop-to.point c.args.to c.past_code-point.result b c.past_code-point.ensures.next, sym (kept-moved c.args.bytes.now c.loop-to.point c.args.to c.past_code-point.result c.loop-to.kept c.is_blank-blank.result b c.past_code-point.ensures.next c.is_blank-blank.ensures c.if-not-blank.true) ∙ c.loop-to.invariant.1)

pub loop-to-smaller : goal.loop-to-smaller
loop-to-smaller c =
    let b : IsBegun c.args.bytes.now c.loop-to.point c.args.to = begun-where c.args.bytes.now c.loop-to.point c.args.to c.loop-to.invariant.0 (sym c.is_same_place.ensures ∙ c.loop-to-test.true) in
    shorter c.args.bytes.now c.loop-to.point c.args.to c.past_code-point.result b c.past_code-point.ensures.next

pub loop-to-preserved : goal.loop-to-preserved
loop-to-preserved c =
    let b : IsBegun c.args.bytes.now c.loop-to.point c.args.to = begun-where c.args.bytes.now c.loop-to.point c.args.to c.loop-to.invariant.0 (sym c.is_same_place.ensures ∙ c.loop-to-test.true) in
    (stretch-next c.args.bytes.now c.loop-to.point c.args.to c.past_code-point.result b c.past_code-point.ensures.next, sym (kept-same c.args.bytes.now c.loop-to.point c.args.to c.past_code-point.result c.loop-to.kept c.is_blank-blank.result b c.past_code-point.ensures.next c.is_blank-blank.ensures c.if-not-blank.false) ∙ c.loop-to.invariant.1)

pub returns : goal.returns
returns c =
    let e : IsEnded c.args.bytes.now c.loop-to.point c.args.to = ended-where c.args.bytes.now c.loop-to.point c.args.to c.loop-to.invariant.0 (sym c.is_same_place.ensures ∙ c.loop-to-test.false) in
    ap (last_kept c.loop-to.kept) (sym e.none) ∙ c.loop-to.invariant.1 ∙ last-is c.args.from (between c.args.bytes.now c.args.from c.args.to)
