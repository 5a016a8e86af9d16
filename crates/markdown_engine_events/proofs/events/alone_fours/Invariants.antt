use Rattle.std.proofs.Common.{◌≡◌, ◌≤◌, ◌-◌, length, take, None}
use Rattle.std.specs.List.{All}
use Rattle.markdown_engine_events.specs.EventChains.{link_previous, next_link}
use Rattle.markdown_engine_events.proofs.events.alone_fours.Given as goal

abbrev pub invariant-loop-count : goal.invariant-loop-count
invariant-loop-count l = record {
  within : l.count ≤ length l.items;
  previous : All (λ e. link_previous e.link ≡ None) (take l.count l.items);
  next : All (λ e. next_link None e.link ≡ e.link) (take l.count l.items);
}

abbrev pub decreases-loop-count : goal.decreases-loop-count
decreases-loop-count l = length l.items - l.count
