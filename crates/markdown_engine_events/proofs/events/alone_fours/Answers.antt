use Rattle.std.proofs.Common.{◌≡◌, arith, None}
use Rattle.markdown_engine_events.specs.EventChains.{link_previous, next_link}
use Rattle.markdown_engine_events.proofs.EventChainLemmas.{more-each}
use Rattle.markdown_engine_events.proofs.events.alone_fours.Goals as goal

pub returns-then-more-lt-FOUR : goal.returns-then-more-lt-FOUR
returns-then-more-lt-FOUR c = record {
  within = omega (arith, c.loop-count.invariant.within, c.loop-count-test.true, c.alone_among_four-more.ensures.within);
  previous = more-each (λ e. link_previous e.link ≡ None) c.args.items.now c.loop-count.count _ c.loop-count.invariant.previous (λ i e low high. c.alone_among_four-more.ensures.previous i e low high);
  next = more-each (λ e. next_link None e.link ≡ e.link) c.args.items.now c.loop-count.count _ c.loop-count.invariant.next (λ i e low high. c.alone_among_four-more.ensures.next i e low high);
}

pub loop-count-preserved : goal.loop-count-preserved
loop-count-preserved c = record {
  within = omega (arith, c.loop-count.invariant.within, c.loop-count-test.true, c.alone_among_four-more.ensures.within);
  previous = more-each (λ e. link_previous e.link ≡ None) c.args.items.now c.loop-count.count _ c.loop-count.invariant.previous (λ i e low high. c.alone_among_four-more.ensures.previous i e low high);
  next = more-each (λ e. next_link None e.link ≡ e.link) c.args.items.now c.loop-count.count _ c.loop-count.invariant.next (λ i e low high. c.alone_among_four-more.ensures.next i e low high);
}
