use Rattle.std.proofs.Common.{◌≡◌, drop}
use Rattle.markdown_passes.specs.TrimmedData.{between, IsStretch}
use Rattle.markdown_passes.specs.EmailScan.{is_word_of}
use Rattle.markdown_passes.proofs.literal.is_word.Given as goal

-- the codes that are left are the letters that are left where all codes are the word
abbrev pub invariant-loop-letter : goal.invariant-loop-letter
invariant-loop-letter l =
    IsStretch l.bytes l.point l.to × (is_word_of (drop l.letter-index l.word) (between l.bytes l.point l.to) ≡ is_word_of l.word (between l.bytes l.fn.from l.to))
