use Rattle.std.proofs.Common.{length, refl, ap, arith, ◌∙◌}
use Rattle.std.proofs.lemmas.Bool.{both_ways}
use Rattle.markdown_engine_events.proofs.EditsInPlace.{apart-more, grown-more, growing-more}
use Rattle.markdown_engine_events.proofs.util.edits_in_place.fit_of.Goals as goal

pub loop-index-preserved-then-comes-edit : goal.loop-index-preserved-then-comes-edit
loop-index-preserved-then-comes-edit c =
    let cs = c.args.edits.now.comes.now in
    let es = c.args.edits.now.entries.now in
    let i = c.loop-index.index in
    let sum = grown-more cs es i c.loop-index-test.true (omega arith) in
    let size = c.len-comes.ensures ∙ ap length c.brought.ensures in
    record {
      apart = apart-more cs es i c.loop-index-test.true (omega arith) c.args.count c.loop-index.next c.loop-index.invariant.apart
          (omega (arith, c.if-edit-count.false, c.if-edit-count-2.false)) (omega (arith, c.if-edit-next.false)) (omega (arith, c.if-edit-next-2.false));
      more = omega (arith, c.loop-index.invariant.more, c.if-comes-edit.true);
      growing = λ t. absurd (both_ways _ refl t);
    }

pub loop-index-preserved : goal.loop-index-preserved
loop-index-preserved c =
    let cs = c.args.edits.now.comes.now in
    let es = c.args.edits.now.entries.now in
    let i = c.loop-index.index in
    let sum = grown-more cs es i c.loop-index-test.true (omega arith) in
    let size = c.len-comes.ensures ∙ ap length c.brought.ensures in
    record {
      apart = apart-more cs es i c.loop-index-test.true (omega arith) c.args.count c.loop-index.next c.loop-index.invariant.apart
          (omega (arith, c.if-edit-count.false, c.if-edit-count-2.false)) (omega (arith, c.if-edit-next.false)) (omega (arith, c.if-edit-next-2.false));
      more = omega (arith, c.loop-index.invariant.more, c.in_ok-fit.ensures);
      growing = λ t. growing-more cs es i c.loop-index-test.true (omega arith) (c.loop-index.invariant.growing t) (omega (arith, c.if-comes-edit.false));
    }
