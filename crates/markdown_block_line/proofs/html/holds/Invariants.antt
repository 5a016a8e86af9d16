use Rattle.std.proofs.Common.{◌≡◌, length}
use Rattle.std.specs.Prelude.{◌==◌}
use Rattle.std.specs.List.{starts_with}
use Rattle.markdown_block_line.specs.LineWords.{holds_value}
use Rattle.markdown_block_line.proofs.html.holds.Given as goal

abbrev pub invariant-loop-line : goal.invariant-loop-line
invariant-loop-line l = holds_value (λ vs. starts_with (λ v n. v == n) vs l.word) l.line ≡ holds_value (λ vs. starts_with (λ v n. v == n) vs l.word) l.fn.line

abbrev pub decreases-loop-line : goal.decreases-loop-line
decreases-loop-line l = length l.line
