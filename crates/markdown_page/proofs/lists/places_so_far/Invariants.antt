use Rattle.std.proofs.Common.{length, take, drop}
use Rattle.markdown_block_model.specs.BlockTree.{nothing}
use Rattle.markdown_blocks.specs.BlockRows.{rows_from}
use Rattle.markdown_blocks.specs.NestedRows.{AreNested}
use Rattle.markdown_page.specs.ListWalks.{IsWalked}
use Rattle.markdown_page.proofs.lists.places_so_far.Given as goal

abbrev pub invariant-loop-row : goal.invariant-loop-row
invariant-loop-row l = record {
  walked : IsWalked (rows_from l.document nothing (take l.row-index l.rows)) l.walk;
  nested : AreNested (length l.walk.path.items) (drop l.row-index l.rows);
}
