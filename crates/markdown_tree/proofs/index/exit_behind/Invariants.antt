-- So many Enters before the event are open, and so many Exits ahead end them first.
use Rattle.std.proofs.Common.{◌≡◌, ◌<◌, drop, slice_get}
use Rattle.markdown_tree.specs.Nodes.{exits_ahead, own_exit}
use Rattle.markdown_tree.proofs.index.exit_behind.Given as goal

abbrev pub invariant-loop-index : goal.invariant-loop-index
invariant-loop-index l = record {
  few : l.open < l.index;
  ahead : slice_get (exits_ahead l.index (drop l.index l.events)) l.open ≡ own_exit l.events l.number;
}
