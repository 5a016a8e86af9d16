-- The labels so far are marked.
use Rattle.std.proofs.Common.{◌≡◌, ◌++◌, take}
use Rattle.markdown_label.specs.Brackets.{labels_edits}
use Rattle.markdown_label_pass.proofs.label_groups.mark_labels.Given as goal

-- the edits of the labels so far
abbrev pub invariant-loop-label : goal.invariant-loop-label
invariant-loop-label l = l.map ≡ l.fn.map ++ labels_edits l.events (take l.label-index l.labels)
