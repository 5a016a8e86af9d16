use Rattle.markdown_inline_c.specs.FlatStrings.{IsStringAt, string_text}
use Rattle.markdown_inline_c.proofs.InTurn.{AreRead}
use Rattle.markdown_inline_c.proofs.strings.read_all.Given as goal

abbrev pub invariant-loop-at : goal.invariant-loop-at
invariant-loop-at l = AreRead (string_text l.how l.bytes l.parts) (IsStringAt l.bytes l.parts) l.strings l.initial.texts l.texts l.initial.ends l.ends l.outcome l.at
