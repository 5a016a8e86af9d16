-- The starts so far are marked, and the rest is still to come.
use Rattle.std.proofs.Common.{◌≡◌, ◌++◌, length}
use Rattle.std.specs.List.{All}
use Rattle.markdown_label.specs.Brackets.{loose_edits, IsStartWithin}
use Rattle.markdown_label.specs.LabelsHandedOver.{starts_of}
use Rattle.markdown_label_pass.proofs.label_groups.mark_unused.Given as goal

-- the edits of the starts so far, and those that are still to come
abbrev pub invariant-loop-start : goal.invariant-loop-start
invariant-loop-start l = record {
  marked : l.map ++ loose_edits l.events (starts_of l.starts) ≡ l.fn.map ++ loose_edits l.events (starts_of l.fn.starts);
  within : All (IsStartWithin (length l.events)) (starts_of l.starts);
}

abbrev pub decreases-loop-start : goal.decreases-loop-start
decreases-loop-start l = length l.starts
