use Rattle.std.proofs.Common.{◌≡◌, ◌==◌}
use Rattle.std.specs.List.{count_by, slice_range}
use Rattle.markdown_content.proofs.byte_counts.count_between.Given as goal

abbrev pub invariant-loop-at : goal.invariant-loop-at
invariant-loop-at l = l.count ≡ count_by (λ b. b == l.byte) (slice_range l.bytes l.from l.at)
