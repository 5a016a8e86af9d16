use Rattle.std.proofs.Common.{◌≡◌, ◌≤◌, length, take}
use Rattle.std.specs.Prelude.{◌==◌}
use Rattle.markdown_block_line.specs.LineValues.{len_without_end}
use Rattle.markdown_block_line.proofs.starts.open_len.Given as goal

abbrev pub invariant-loop-len : goal.invariant-loop-len
invariant-loop-len l = record { within : l.len ≤ length l.text; same : len_without_end (λ v. v == 35) (take l.len l.text) ≡ len_without_end (λ v. v == 35) l.text }

abbrev pub decreases-loop-len : goal.decreases-loop-len
decreases-loop-len l = l.len
