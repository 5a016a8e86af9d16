use Rattle.std.proofs.Common.{◌<◌, ◌-◌, ◌+◌, length, arith, sym, ◌∙◌}
use Rattle.markdown_passes.proofs.TrimEdits.{places-on, places-pass}
use Rattle.markdown_passes.proofs.EmailEditLemmas.{places-first, signs-before, signs-more}
use Rattle.markdown_passes.proofs.email.next_signed.Goals as goal

pub loop-index-init : goal.loop-index-init
loop-index-init c =
    let r = c.next_data-index in
    record {
      from = r.ensures.from;
      within = r.ensures.within;
      places = places-pass c.args.bytes.now (r.result - c.args.from) c.args.from r.result c.args.events.now (omega (arith, r.ensures.from)) r.ensures.within c.requires.places;
      none = signs-before c.args.bytes.now c.args.events.now c.args.from r.result r.ensures.within r.ensures.none;
      opens = r.ensures.here;
      clear = c.clear_at_first-clear.ensures;
    }

pub is_signed-requires-clause-places : goal.is_signed-requires-clause-places
is_signed-requires-clause-places c = places-first _ _ c.loop-index.invariant.places

pub is_signed-requires-clause-opens : goal.is_signed-requires-clause-opens
is_signed-requires-clause-opens c = λ e. c.loop-index.invariant.opens e (omega (arith, c.loop-index-test.true, c.len-count.ensures))

pub loop-index-preserved : goal.loop-index-preserved
loop-index-preserved c =
    let r = c.next_data-index-in-loop-index in
    let here : c.loop-index.index < length c.args.events.now = omega (arith, c.loop-index-test.true, c.len-count.ensures) in
    record {
      from = omega (arith, c.loop-index.invariant.from, r.ensures.from);
      within = r.ensures.within;
      places = places-pass c.args.bytes.now (r.result - (c.loop-index.index + 1)) (c.loop-index.index + 1) r.result c.args.events.now (omega (arith, r.ensures.from)) r.ensures.within (places-on c.args.bytes.now c.loop-index.index c.args.events.now here c.loop-index.invariant.places);
      none = signs-more c.args.bytes.now c.args.events.now c.args.from c.loop-index.index r.result (sym c.is_signed.ensures.value ∙ c.if-is_signed.false) r.ensures.within r.ensures.none c.loop-index.invariant.none;
      opens = r.ensures.here;
      clear = c.is_signed.ensures.clear;
    }
