-- Those before the place are counted.
use Rattle.std.proofs.Common.{◌≡◌, take}
use Rattle.markdown_notes.specs.BracketIndex.{brackets_of}
use Rattle.markdown_notes.proofs.bracket_index.brackets_of.Given as goal

abbrev pub invariant-loop-byte : goal.invariant-loop-byte
invariant-loop-byte l = l.count ≡ brackets_of (take l.byte-index l.text)
