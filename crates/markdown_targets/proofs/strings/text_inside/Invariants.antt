use Rattle.std.proofs.Common.{◌≡◌, ◌++◌, false, length}
use Rattle.markdown_targets.specs.LinkTargets.{text_inside}
use Rattle.markdown_targets.proofs.strings.text_inside.Given as goal

-- what is written, and what the rest gives, are the whole
abbrev pub invariant-loop-event : goal.invariant-loop-event
invariant-loop-event l = l.out.items ++ text_inside l.bytes l.string l.is_in l.left ≡ text_inside l.bytes l.string false l.events

abbrev pub decreases-loop-event : goal.decreases-loop-event
decreases-loop-event l = length l.left
