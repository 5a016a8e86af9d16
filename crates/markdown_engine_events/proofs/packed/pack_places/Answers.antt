use Rattle.std.proofs.Common.{◌∙◌, refl, sym, arith}
use Rattle.std.proofs.lemmas.List.{length-set, length-replicate}
use Rattle.markdown_engine_events.specs.MarkedEvents.{bare_at}
use Rattle.markdown_engine_events.proofs.MarkLemmas.{written-more, written-all}
use Rattle.markdown_engine_events.proofs.packed.pack_places.Goals as goal

pub loop-index-init : goal.loop-index-init
loop-index-init g c = record { length = length-replicate _ _ ∙ sym c.told-points; places = refl }

pub loop-index-preserved : goal.loop-index-preserved
loop-index-preserved g c = record {
  length = length-set c.loop-index.places c.loop-index.index c.in_ok-places.field-0 ∙ c.loop-index.invariant.length;
  places =
      written-more bare_at c.loop-index.places c.args.points.now c.loop-index.index c.in_ok-places.field-0 _
      (omega (arith, c.loop-index-test.true, c.told-points, c.loop-index.invariant.length)) (omega (arith, c.loop-index-test.true, c.told-points)) c.loop-index.invariant.places c.in_ok-places.ensures;
}

pub returns : goal.returns
returns g c =
    written-all bare_at c.loop-index.places c.args.points.now c.loop-index.index
    (omega (arith, c.loop-index-test.false, c.told-points, c.loop-index.invariant.length)) (omega (arith, c.loop-index-test.false, c.told-points)) c.loop-index.invariant.places
