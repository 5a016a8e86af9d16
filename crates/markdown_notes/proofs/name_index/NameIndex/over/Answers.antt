-- The names, sorted, are the names in order.
use Rattle.std.proofs.Common.{◌∙◌, ap, subst, map, string_bytes}
use Rattle.std.specs.List.Sorted.{IsPermutation}
use Rattle.std.proofs.lemmas.List.Sorted.{IsPermutation-map}
use Rattle.std.proofs.lemmas.List.{take_all}
use Rattle.markdown_notes.proofs.NameSort.{sorted-names}
use Rattle.markdown_notes.proofs.name_index.NameIndex.over.Goals as goal

pub returns : goal.returns
returns c =
    sorted-names string_bytes (map string_bytes c.args.names.now) c.sort_unstable.new.self.items
    (subst (λ ds. IsPermutation ds (map string_bytes c.sort_unstable.new.self.items)) (c.loop-name.invariant ∙ ap (map string_bytes) (take_all c.loop-name.name-index c.args.names.now c.loop-name-test.false))
    (IsPermutation-map string_bytes c.loop-name.sorted.items c.sort_unstable.new.self.items c.sort_unstable.ensures.permutation))
    c.sort_unstable.ensures.sorted
