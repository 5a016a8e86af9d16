use Rattle.std.proofs.Common.{◌-◌, length}
use Rattle.markdown_blocks.specs.PathItems.{EndsWithItems}
use Rattle.markdown_blocks.proofs.path.items_at_end.Given as goal

abbrev pub invariant-loop-row : goal.invariant-loop-row
invariant-loop-row l = EndsWithItems l.row l.containers

abbrev pub decreases-loop-row : goal.decreases-loop-row
decreases-loop-row l = length l.containers - l.row
