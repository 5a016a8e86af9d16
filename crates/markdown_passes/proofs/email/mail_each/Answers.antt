use Rattle.std.proofs.Common.{◌<◌, length, arith}
use Rattle.markdown_passes.proofs.TrimEdits.{places-on}
use Rattle.markdown_passes.proofs.EmailEditLemmas.{places-first, mailing-start, mailing-next, mailing-end}
use Rattle.markdown_passes.proofs.email.mail_each.Goals as goal

pub loop-index-init : goal.loop-index-init
loop-index-init c =
    let r = c.next_signed-index in
    record {
      from = omega arith;
      within = r.ensures.within;
      few = omega arith;
      places = r.ensures.places;
      mailing = mailing-start c.args.bytes.now c.args.events.now c.args.map.now r.result c.requires.empty r.ensures.within r.ensures.none;
    }

pub mail_first-requires-clause-places : goal.mail_first-requires-clause-places
mail_first-requires-clause-places c = places-first _ _ c.loop-index.invariant.places

pub next_signed-index-requires-in-loop-index-clause-places : goal.next_signed-index-requires-in-loop-index-clause-places
next_signed-index-requires-in-loop-index-clause-places c =
    places-on c.args.bytes.now c.loop-index.index c.args.events.now (omega (arith, c.loop-index-test.true, c.len-count.ensures)) c.loop-index.invariant.places

pub loop-index-preserved : goal.loop-index-preserved
loop-index-preserved c =
    let r = c.next_signed-index-in-loop-index in
    let here : c.loop-index.index < length c.args.events.now = omega (arith, c.loop-index-test.true, c.len-count.ensures) in
    record {
      from = omega (arith, r.ensures.from);
      within = r.ensures.within;
      few = c.links_past-links.ensures.few;
      places = r.ensures.places;
      mailing = mailing-next c.args.bytes.now c.args.events.now c.loop-index.map c.mail_first.new.map c.loop-index.from c.loop-index.index r.result c.loop-index.links c.links_past-links.result here r.ensures.from r.ensures.within r.ensures.none c.links_past-links.ensures.past c.in_ok-mail_first.ensures c.loop-index.invariant.mailing;
    }

pub returns : goal.returns
returns c =
    mailing-end c.args.bytes.now c.args.events.now c.loop-index.map c.loop-index.from c.loop-index.index c.loop-index.links (omega (arith, c.loop-index-test.false, c.len-count.ensures)) c.loop-index.invariant.mailing
