-- The names are in order, and what is told of them is told of their bytes.
use Rattle.std.proofs.Common.{sym, subst, string_bytes, arith}
use Rattle.std.specs.List.Sorted.{IsSorted}
use Rattle.std.specs.String.{string_cmp}
use Rattle.markdown_notes.proofs.NameOrder.{any_map}
use Rattle.markdown_notes.proofs.name_index.NameIndex.begins.Goals as goal

pub returns-then-first_begins : goal.returns-then-first_begins
returns-then-first_begins c = grind (arith, string_bytes, any_map)

pub returns-else-first_begins : goal.returns-else-first_begins
returns-else-first_begins c = grind (arith, string_bytes, any_map)

pub one_begins-requires : goal.one_begins-requires
one_begins-requires c = subst (IsSorted string_cmp) (sym c.as_slice-names.ensures.value) c.self.invariant.0
