use Rattle.std.proofs.Common.{◌≡◌, ◌*◌, ◌==◌, take, drop}
use Rattle.std.specs.List.{count_by}
use Rattle.markdown_content.proofs.byte_counts.count_in_groups.Given as goal

abbrev pub invariant-loop-group : goal.invariant-loop-group
invariant-loop-group l = l.count ≡ count_by (λ b. b == l.byte) (take (16 * l.group) (drop l.from l.bytes))
