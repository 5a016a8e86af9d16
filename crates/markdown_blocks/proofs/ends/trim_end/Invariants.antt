use Rattle.std.proofs.Common.{length}
use Rattle.markdown_blocks.specs.TextTrims.{IsTrimming}
use Rattle.markdown_blocks.proofs.ends.trim_end.Given as goal

abbrev pub invariant-loop-last : goal.invariant-loop-last
invariant-loop-last l = IsTrimming l.document l.initial.text.items l.text.items

abbrev pub decreases-loop-last : goal.decreases-loop-last
decreases-loop-last l = length l.text.items
