use Rattle.std.proofs.Common.{◌<◌, ◌-◌, ◌+◌, length, arith}
use Rattle.markdown_passes.specs.TrimmedEvents.{breaks_of}
use Rattle.markdown_passes.proofs.TrimEdits.{places-on, places-pass, trims-begin, trims-next, trims-end}
use Rattle.markdown_passes.proofs.partial_whitespace.trim_each.Goals as goal

pub loop-index-init : goal.loop-index-init
loop-index-init c =
    let r = c.next_data-index in
    record {
      within = r.ensures.within;
      places = places-pass c.args.bytes.now r.result 0 r.result c.args.events.now (omega arith) r.ensures.within c.requires.places;
      trims = trims-begin c.args.bytes.now (breaks_of c.args.trimming.hard) c.args.trimming.whole r.result c.args.events.now c.args.map.now r.ensures.within r.ensures.none c.requires.empty;
    }

pub loop-index-preserved : goal.loop-index-preserved
loop-index-preserved c =
    let r = c.next_data-index-in-loop-index in
    let i = c.loop-index.index in
    let here : i < length c.args.events.now = omega (arith, c.loop-index-test.true, c.len-count.ensures) in
    record {
      within = r.ensures.within;
      places = places-pass c.args.bytes.now (r.result - (i + 1)) (i + 1) r.result c.args.events.now (omega (arith, r.ensures.from)) r.ensures.within (places-on c.args.bytes.now i c.args.events.now here c.loop-index.invariant.places);
      trims = trims-next c.args.bytes.now (breaks_of c.args.trimming.hard) c.args.trimming.whole i r.result c.args.events.now c.loop-index.map c.trim_first.new.map _ here r.ensures.from r.ensures.within r.ensures.none c.in_ok-trim_first.ensures c.loop-index.invariant.trims;
    }

pub returns : goal.returns
returns c =
    trims-end c.args.bytes.now (breaks_of c.args.trimming.hard) c.args.trimming.whole c.loop-index.index c.args.events.now c.loop-index.map _ (omega (arith, c.loop-index-test.false, c.len-count.ensures)) c.loop-index.invariant.trims
