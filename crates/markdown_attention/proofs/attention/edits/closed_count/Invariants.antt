use Rattle.std.proofs.Common.{◌≡◌, ◌≤◌, ◌-◌, length, take}
use Rattle.std.specs.List.{All}
use Rattle.markdown_attention.proofs.attention.edits.closed_count.Given as goal

abbrev pub invariant-loop-count : goal.invariant-loop-count
invariant-loop-count l = (l.count ≤ length l.pairs) × All (λ p. p.closer ≡ l.run) (take l.count l.pairs)

abbrev pub decreases-loop-count : goal.decreases-loop-count
decreases-loop-count l = length l.pairs - l.count
