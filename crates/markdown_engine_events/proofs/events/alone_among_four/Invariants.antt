use Rattle.std.proofs.Common.{ℕ, ◌≡◌, ◌≤◌, ◌<◌, ◌+◌, get_or, None}
use Rattle.markdown_event.specs.declared.event.Event.{Event}
use Rattle.markdown_engine_events.specs.EventChains.{link_previous, next_link}
use Rattle.markdown_engine_events.proofs.events.alone_among_four.Given as goal

abbrev pub invariant-loop-count : goal.invariant-loop-count
invariant-loop-count l = record {
  previous : (i : ℕ) (e : Event) → l.at ≤ i → i < l.at + l.count → link_previous (get_or l.items i e).link ≡ None;
  next : (i : ℕ) (e : Event) → l.at ≤ i → i < l.at + l.count →
      next_link None (get_or l.items i e).link ≡ (get_or l.items i e).link;
}
