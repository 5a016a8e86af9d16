use Rattle.std.proofs.Common.{◌≤◌, ◌-◌, length}
use Rattle.std.specs.Prelude.{◌==◌}
use Rattle.markdown_block_line.specs.LineValues.{front}
use Rattle.markdown_block_line.proofs.line.count_first.Given as goal

abbrev pub invariant-loop-count : goal.invariant-loop-count
invariant-loop-count l = record { passed : l.count ≤ front (λ v. v == l.value) l.line }

abbrev pub decreases-loop-count : goal.decreases-loop-count
decreases-loop-count l = length l.line - l.count
