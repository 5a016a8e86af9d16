-- The Exits so far, from the last event on.
use Rattle.std.proofs.Common.{◌≡◌, drop, reverse}
use Rattle.markdown_tree.specs.Nodes.{exits_ahead}
use Rattle.markdown_tree.specs.TreeIndex.{exits_from}
use Rattle.markdown_tree.proofs.index.exits.Given as goal

abbrev pub invariant-loop-index : goal.invariant-loop-index
invariant-loop-index l = record {
  ahead : l.open ≡ exits_ahead l.index (drop l.index l.events);
  so_far : l.found.items ≡ reverse (exits_from l.index (drop l.index l.events));
}
