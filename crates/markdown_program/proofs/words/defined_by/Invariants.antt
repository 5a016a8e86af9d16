use Rattle.std.proofs.Common.{◌≡◌, map, string_bytes, take}
use Rattle.markdown_program.specs.ProgramWords.{defined_by}
use Rattle.markdown_program.proofs.words.defined_by.Given as goal

abbrev pub invariant-loop-word : goal.invariant-loop-word
invariant-loop-word l = map string_bytes l.found.items ≡ defined_by l.prefix (take l.word-index l.words)
