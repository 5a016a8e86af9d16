-- Whitespace is passed.
use Rattle.std.proofs.Common.{List}
use Rattle.markdown_content.specs.Codes.{Code}
use Rattle.markdown_content.specs.ContentBytes.{AreBytes}
use Rattle.markdown_notes.proofs.SequenceIndexLemmas.{IsSpaced}
use Rattle.markdown_notes.proofs.SequenceBytes.{place_in}
use Rattle.markdown_notes.proofs.sequence_index.close_past_spacing.Given as goal

abbrev pub invariant-loop-byte : goal.invariant-loop-byte
invariant-loop-byte l = (cs : List Code) → AreBytes l.bytes cs → IsSpaced (place_in cs 0) (place_in cs l.byte-index)
