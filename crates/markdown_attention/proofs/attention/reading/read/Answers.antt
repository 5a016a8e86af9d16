use Rattle.std.proofs.Common.{◌<◌, ◌≤◌, ◌+◌, [], length, arith}
use Rattle.markdown_attention.specs.RunsRead.{outermost}
use Rattle.markdown_attention.proofs.RunsReadLemmas.{reading-start, reading-more, reading-end, reading-first, texts-end}
use Rattle.markdown_attention.proofs.RunSearch.{event-at, reading-past}
use Rattle.markdown_attention.proofs.attention.reading.read.Goals as goal

pub loop-index-init : goal.loop-index-init
loop-index-init c =
    let next = c.next_change-index.ensures in
    let start = reading-start c.args.options c.args.bytes.now c.args.cursor.now.codes c.args.events.now c.requires.places in
    record {
      within = next.within;
      reading = rw (c.new-list.ensures.items, c.new.ensures) (reading-past c.args.options c.args.bytes.now c.args.cursor.now.codes c.args.events.now 0 c.next_change-index.result [] outermost (omega arith) next.within next.none start);
    }

pub read_event-requires-clause-places : goal.read_event-requires-clause-places
read_event-requires-clause-places c = reading-first c.args.bytes.now _ c.loop-index.invariant.reading.places

pub loop-index-preserved : goal.loop-index-preserved
loop-index-preserved c =
    let below : c.loop-index.index < length c.args.events.now = omega (arith, c.loop-index-test.true, c.len-count.ensures) in
    let at = event-at c.loop-index.index c.args.events.now below in
    let next = c.next_change-index-in-loop-index.ensures in
    let more = reading-more c.args.options c.args.bytes.now c.args.cursor.now.codes c.args.events.now c.loop-index.index c.loop-index.list.items c.read_event.new.list.items c.loop-index.place c.read_event.new.place
    at.0 below at.1 c.in_ok-read_event.ensures.list (c.in_ok-read_event.ensures.place at.0 at.1) c.loop-index.invariant.reading in
    record {
      within = next.within;
      reading = reading-past c.args.options c.args.bytes.now c.args.cursor.now.codes c.args.events.now (c.loop-index.index + 1) c.next_change-index-in-loop-index.result c.read_event.new.list.items c.read_event.new.place next.from next.within next.none more;
    }

pub returns : goal.returns
returns c =
    let r = c.loop-index.invariant.reading in
    let last : length c.args.events.now ≤ c.loop-index.index = omega (arith, c.loop-index-test.false, c.len-count.ensures) in
    record {
      is = reading-end c.args.options c.args.bytes.now c.args.cursor.now.codes c.args.events.now c.loop-index.index c.loop-index.list.items c.loop-index.place last r;
      numbered = r.numbered;
      texts = texts-end c.args.options c.args.bytes.now c.args.cursor.now.codes c.args.events.now c.loop-index.index c.loop-index.list.items c.loop-index.place last r;
    }
