use Rattle.std.proofs.Common.{◌≡◌, ◌-◌, ◌^◌, take, min, sum_by}
use Rattle.markdown_engine_events.proofs.util.edit_map.count_after.Given as goal

abbrev pub invariant-loop-edit : goal.invariant-loop-edit
invariant-loop-edit l = l.removed ≡ min (sum_by (λ e. e.remove) (take l.edit-index l.log)) (2 ^ 64 - 1)
