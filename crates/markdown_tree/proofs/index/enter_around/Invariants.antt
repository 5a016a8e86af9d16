-- So many Exits behind the event have ended, and so many Enters before it are theirs.
use Rattle.std.proofs.Common.{◌≡◌, ◌≤◌, ◌+◌, slice_get}
use Rattle.markdown_content.specs.Nesting.{open_before, own_enter}
use Rattle.markdown_tree.proofs.index.enter_around.Given as goal

abbrev pub invariant-loop-index : goal.invariant-loop-index
invariant-loop-index l = record {
  few : l.closed + l.index ≤ l.number;
  before : slice_get (open_before l.events l.index) l.closed ≡ own_enter l.events l.number;
}
