-- The numbers, sorted.
use Rattle.std.proofs.Common.{string_bytes, arith}
use Rattle.std.proofs.lemmas.List.{take_all}
use Rattle.std.proofs.lemmas.List.Sorted.{IsNonDecreasingBy-from_sort}
use Rattle.markdown_notes.proofs.name_index.counts_of.Goals as goal

pub returns-clause-sorted : goal.returns-clause-sorted
returns-clause-sorted c =
    IsNonDecreasingBy-from_sort (λ x. x) c.sort_unstable.new.self.items c.sort_unstable.ensures.sorted

pub returns-clause-permutation : goal.returns-clause-permutation
returns-clause-permutation c = grind (arith, string_bytes, take_all)
