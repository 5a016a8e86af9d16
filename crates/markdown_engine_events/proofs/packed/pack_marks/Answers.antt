use Rattle.std.proofs.Common.{◌∙◌, ◌<◌, refl, sym, length, arith}
use Rattle.std.proofs.lemmas.List.{length-set, length-replicate}
use Rattle.markdown_engine_events.specs.MarkedEvents.{marked_at}
use Rattle.markdown_engine_events.proofs.MarkLemmas.{written-all, marks-more}
use Rattle.markdown_engine_events.proofs.packed.pack_marks.Goals as goal

pub loop-index-init : goal.loop-index-init
loop-index-init g c = record { length = length-replicate _ _ ∙ sym c.told-marks; events = λ points h. refl }

pub loop-index-preserved : goal.loop-index-preserved
loop-index-preserved g c = record {
  length = length-set c.loop-index.events c.loop-index.index _ ∙ c.loop-index.invariant.length;
  events = λ points h.
      let low : c.loop-index.index < length c.args.marks.now = omega (arith, c.loop-index-test.true, c.told-marks) in
      marks-more c.args.places.now points c.args.marks.now c.loop-index.events g.row.K c.loop-index.index _ _ _ c.requires c.told-places
      (omega (arith, low, c.loop-index.invariant.length)) low h (c.loop-index.invariant.events points h) c.plain_shape.ensures.kind c.plain_shape.ensures.plain;
}

pub returns : goal.returns
returns g c points h =
    written-all (marked_at points) c.loop-index.events c.args.marks.now c.loop-index.index
    (omega (arith, c.loop-index-test.false, c.told-marks, c.loop-index.invariant.length)) (omega (arith, c.loop-index-test.false, c.told-marks)) (c.loop-index.invariant.events points h)
