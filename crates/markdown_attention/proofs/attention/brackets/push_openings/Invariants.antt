use Rattle.std.proofs.Common.{◌≡◌, ◌++◌, drop, reverse}
use Rattle.markdown_attention.specs.RunEvents.{shifted, total, openings_from}
use Rattle.markdown_attention.proofs.attention.brackets.push_openings.Given as goal

-- the brackets so far
abbrev pub invariant-loop-index : goal.invariant-loop-index
invariant-loop-index l = record {
  place : l.point ≡ shifted l.fn.from (total (reverse (drop l.index l.sizes)));
  events : l.events.items ≡ l.initial.events.items ++ openings_from l.marker l.fn.from (reverse (drop l.index l.sizes));
}
