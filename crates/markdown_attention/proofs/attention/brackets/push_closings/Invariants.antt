use Rattle.std.proofs.Common.{◌≡◌, ◌++◌, take}
use Rattle.markdown_attention.specs.RunEvents.{shifted, total, closings_from}
use Rattle.markdown_attention.proofs.attention.brackets.push_closings.Given as goal

-- the brackets so far
abbrev pub invariant-loop-size : goal.invariant-loop-size
invariant-loop-size l = record {
  place : l.point ≡ shifted l.fn.from (total (take l.size-index l.sizes));
  events : l.events.items ≡ l.initial.events.items ++ closings_from l.marker l.fn.from (take l.size-index l.sizes);
}
