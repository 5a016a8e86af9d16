use Rattle.std.proofs.Common.{ℕ, ◌≡◌, ◌<◌, ◌+◌, List, [], ◌∷◌, length, take, get_or, None, sym, subst, arith}
use Rattle.std.specs.List.{All}
use Rattle.std.proofs.lemmas.List.{take_more}
use Rattle.std.proofs.lemmas.List.Elements.{All-push}
use Rattle.markdown_event.specs.declared.event.Event.{Event}
use Rattle.markdown_engine_events.specs.EventChains.{link_previous, next_link}
use Rattle.markdown_engine_events.proofs.events.alone_count.Goals as goal

some-event : (es : List Event) (k : ℕ) → k < length es → Event
some-event [] k within = absurd (omega arith)
some-event (e ∷ es) k within = e

all-more : (P : Event → Type 0) (es : List Event) (k : ℕ) → k < length es → All P (take k es) →
    ((d : Event) → P (get_or es k d)) → All P (take (k + 1) es)
all-more P es k within all here =
    let d : Event = some-event es k within in
    subst (λ (xs : List Event). All P xs) (sym (take_more es k d within)) (All-push P (take k es) (get_or es k d) all (here d))

pub loop-count-init : goal.loop-count-init
loop-count-init c = record {
  within = c.alone_fours-count.ensures.within;
  previous = c.alone_fours-count.ensures.previous;
  next = c.alone_fours-count.ensures.next;
}

pub loop-count-preserved : goal.loop-count-preserved
loop-count-preserved c =
    let near : c.loop-count.count < length c.args.items.now = omega (arith, c.loop-count-test.true, c.len.ensures) in
    record {
      within = omega arith;
      previous = all-more (λ (e : Event). link_previous e.link ≡ None) c.args.items.now c.loop-count.count near c.loop-count.invariant.previous (c.is_alone.ensures.previous c.if-is_alone.true);
      next = all-more (λ (e : Event). next_link None e.link ≡ e.link) c.args.items.now c.loop-count.count near c.loop-count.invariant.next (c.is_alone.ensures.next c.if-is_alone.true);
    }

pub returns-else-is_alone : goal.returns-else-is_alone
returns-else-is_alone c = record {
  within = c.loop-count.invariant.within;
  previous = c.loop-count.invariant.previous;
  next = c.loop-count.invariant.next;
}

pub returns-after-loop-count : goal.returns-after-loop-count
returns-after-loop-count c = record {
  within = c.loop-count.invariant.within;
  previous = c.loop-count.invariant.previous;
  next = c.loop-count.invariant.next;
}
