use Rattle.std.proofs.Common.{◌≡◌, drop}
use Rattle.markdown_run_text.specs.PlacesPassed.{is_word}
use Rattle.markdown_run_text.proofs.readers.partial_data.stands.Given as goal

-- what is left of the word decides
abbrev pub invariant-loop-letter : goal.invariant-loop-letter
invariant-loop-letter l = is_word (drop l.letter-index l.word) l.place ≡ is_word l.word l.fn.cursor
