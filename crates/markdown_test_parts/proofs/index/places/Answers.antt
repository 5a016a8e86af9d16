-- The places, sorted.
use Rattle.std.proofs.lemmas.List.Sorted.{IsNonDecreasingBy-from_sort}
use Rattle.markdown_test_parts.proofs.index.places.Goals as goal

pub new-index-requires : goal.new-index-requires
new-index-requires c =
    IsNonDecreasingBy-from_sort (λ x. x) c.sort_unstable.new.self.items c.sort_unstable.ensures.sorted
