-- The starts so far are marked.
use Rattle.std.proofs.Common.{◌≡◌, ◌++◌, take}
use Rattle.markdown_label.specs.Brackets.{loose_edits}
use Rattle.markdown_label.specs.LabelsHandedOver.{starts_of}
use Rattle.markdown_label_pass.proofs.label_groups.mark_failed.Given as goal

-- the edits of the starts so far
abbrev pub invariant-loop-start : goal.invariant-loop-start
invariant-loop-start l = l.map ≡ l.fn.map ++ loose_edits l.events (starts_of (take l.start-index l.starts))
