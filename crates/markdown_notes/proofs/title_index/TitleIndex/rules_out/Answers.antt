-- The first parenthesis from the place on settles it.
use Rattle.std.proofs.Common.{sym, arith, subst}
use Rattle.std.specs.List.Sorted.{IsNonDecreasingBy}
use Rattle.std.proofs.lemmas.Bool.{le-leb}
use Rattle.markdown_notes.specs.declared.title_index.Closer.{Closer}
use Rattle.markdown_notes.proofs.TitleIndexLemmas.{first-found, none-found}
use Rattle.markdown_notes.proofs.title_index.TitleIndex.rules_out.Goals as goal

pub first_from-first-requires : goal.first_from-first-requires
first_from-first-requires c =
    subst (λ xs. IsNonDecreasingBy (λ (x : Closer). x.at) xs) (sym c.as_slice.ensures.value) c.self.invariant

pub returns-then-first-len : goal.returns-then-first-len
returns-then-first-len c = grind (arith, le-leb, none-found)

pub returns-else-first-len : goal.returns-else-first-len
returns-else-first-len c = grind (arith, first-found)
