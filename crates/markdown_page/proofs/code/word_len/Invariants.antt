use Rattle.std.proofs.Common.{◌≡◌, ◌≤◌, ◌<◌, ◌-◌, ℕ, length, get_or, false}
use Rattle.std.specs.Char.{is_ascii_whitespace}
use Rattle.markdown_page.proofs.code.word_len.Given as goal

abbrev pub invariant-loop-len : goal.invariant-loop-len
invariant-loop-len l = record { within : l.len ≤ length l.text; word : (i : ℕ) → i < l.len → is_ascii_whitespace (get_or l.text i 0) ≡ false }

abbrev pub decreases-loop-len : goal.decreases-loop-len
decreases-loop-len l = length l.text - l.len
