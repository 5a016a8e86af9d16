use Rattle.std.proofs.Common.{◌≤◌, length}
use Rattle.markdown_block_model.specs.BlockTree.{Tree}
use Rattle.markdown_page.specs.ListWalks.{IsWalked}
use Rattle.markdown_page.proofs.lists.Walk.leave.Given as goal

abbrev pub invariant-loop-self : goal.invariant-loop-self
invariant-loop-self l = record {
  walked : (t : Tree) → IsWalked t l.initial.self → IsWalked t l.self;
  within : l.depth ≤ length l.self.path.items;
}

abbrev pub decreases-loop-self : goal.decreases-loop-self
decreases-loop-self l = length l.self.path.items
