-- A search among the numbers in order settles it.
use Rattle.std.proofs.Common.{◌∙◌, ◌==◌, ap, string_bytes, subst, sym}
use Rattle.std.specs.List.{list_any}
use Rattle.std.specs.List.Sorted.{IsNonDecreasing}
use Rattle.std.proofs.lemmas.List.Sorted.{searched}
use Rattle.markdown_notes.specs.BracketIndex.{has_brackets}
use Rattle.markdown_notes.proofs.BracketIndexLemmas.{search-finds, has-count}
use Rattle.markdown_notes.proofs.name_index.NameIndex.has_brackets.Goals as goal

pub returns : goal.returns
returns c =
    c.is_ok.ensures.value
    ∙ search-finds c.deref.result.now c.args.count c.binary_search.result (searched c.deref.result.now c.args.count c.binary_search.result c.binary_search.ensures.position (λ i j up l. subst (λ xs. IsNonDecreasing xs) (sym c.deref.ensures.value) c.self.invariant.1.0 i j 0 up l))
    ∙ ap (list_any (λ x. x == c.args.count)) c.deref.ensures.value
    ∙ has-count string_bytes c.self.inside.names.items c.self.inside.counts.items c.args.count c.self.invariant.1.1
    ∙ ap (has_brackets c.args.count) c.self.view_is
