use Rattle.markdown_label_names.proofs.IdentifierLetters.{IsWord}
use Rattle.markdown_label_names.proofs.lookup.letters_end.Given as goal

abbrev pub invariant-loop-at : goal.invariant-loop-at
invariant-loop-at l = IsWord l.bytes l.start l.at
