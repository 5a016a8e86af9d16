use Rattle.std.proofs.Common.{◌≡◌, ◌≤◌, ◌<◌, ℕ, true, get_or}
use Rattle.markdown_blocks.specs.TextTrims.{is_space_byte}
use Rattle.markdown_page.proofs.lists.is_blank_piece.Given as goal

abbrev pub invariant-loop-index : goal.invariant-loop-index
invariant-loop-index l = (k : ℕ) → l.start ≤ k → k < l.index → is_space_byte (get_or l.document k 0) ≡ true
