-- The parents so far, and those that are still to come.
use Rattle.std.proofs.Common.{◌≡◌, ◌++◌, drop}
use Rattle.markdown_tree.specs.TreeIndex.{parents_from, parents_of}
use Rattle.markdown_tree.proofs.index.parents.Given as goal

abbrev pub invariant-loop-index : goal.invariant-loop-index
invariant-loop-index l = l.found.items ++ parents_from l.index l.open (drop l.index l.events) ≡ parents_of l.events
