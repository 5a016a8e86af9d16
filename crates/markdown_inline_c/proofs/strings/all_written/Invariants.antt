use Rattle.std.proofs.Common.{◌≡◌, ◌++◌, length}
use Rattle.markdown_inline_c.specs.FlatStrings.{all_written}
use Rattle.markdown_inline_c.proofs.strings.all_written.Given as goal

-- what is written so far, and what is written of the rest, are the whole
abbrev pub invariant-loop-byte : goal.invariant-loop-byte
invariant-loop-byte l = l.found.items ++ all_written l.how l.left ≡ all_written l.how l.bytes

abbrev pub decreases-loop-byte : goal.decreases-loop-byte
decreases-loop-byte l = length l.left
