use Rattle.std.proofs.Common.{◌≡◌}
use Rattle.markdown_engine_events.proofs.event_list.points_apart.Given as goal

abbrev pub invariant-loop-index : goal.invariant-loop-index
invariant-loop-index g l = l.anew ≡ l.points
