use Rattle.std.proofs.Common.{take}
use Rattle.std.specs.List.Sorted.{IsNonDecreasingBy}
use Rattle.markdown_engine_events.proofs.util.edit_map.is_in_order.Given as goal

-- the edits so far are in order
abbrev pub invariant-loop-index : goal.invariant-loop-index
invariant-loop-index l = IsNonDecreasingBy (λ e. e.at) (take l.index l.log)
