use Rattle.std.proofs.Common.{◌≡◌, map, length}
use Rattle.markdown_run_text.specs.PlacesPassed.{one_stands}
use Rattle.markdown_run_text.proofs.readers.partial_data.one_of.Given as goal

abbrev pub invariant-loop-words : goal.invariant-loop-words
invariant-loop-words l = one_stands (map (λ w. w.now) l.words) l.cursor ≡ one_stands (map (λ w. w.now) l.fn.words) l.cursor

abbrev pub decreases-loop-words : goal.decreases-loop-words
decreases-loop-words l = length l.words
