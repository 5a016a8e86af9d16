use Rattle.std.proofs.Common.{◌≡◌, ◌≤◌, ◌-◌, length, take}
use Rattle.std.specs.List.{All}
use Rattle.markdown_engine_events.proofs.util.edit_map.count_at.Given as goal

abbrev pub invariant-loop-count : goal.invariant-loop-count
invariant-loop-count l = (l.count ≤ length l.edits) × All (λ e. e.at ≡ l.at) (take l.count l.edits)

abbrev pub decreases-loop-count : goal.decreases-loop-count
decreases-loop-count l = length l.edits - l.count
