use Rattle.std.proofs.Common.{◌≡◌, map, length}
use Rattle.std.specs.List.{list_any}
use Rattle.markdown_block_line.specs.LineWords.{is_word}
use Rattle.markdown_block_line.proofs.html.one_is_word.Given as goal

abbrev pub invariant-loop-words : goal.invariant-loop-words
invariant-loop-words l = list_any (is_word l.whole l.line) (map (λ w. w.now) l.words) ≡ list_any (is_word l.whole l.line) (map (λ w. w.now) l.fn.words)

abbrev pub decreases-loop-words : goal.decreases-loop-words
decreases-loop-words l = length l.words
