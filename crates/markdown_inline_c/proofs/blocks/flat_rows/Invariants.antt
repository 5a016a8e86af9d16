use Rattle.std.proofs.Common.{◌≡◌, ◌++◌, length, drop}
use Rattle.markdown_inline_c.specs.FlatBlocks.{flat_blocks, flat_pieces}
use Rattle.markdown_inline_c.proofs.blocks.flat_rows.Given as goal

abbrev pub invariant-loop-index : goal.invariant-loop-index
invariant-loop-index l = record {
  blocks : l.found.blocks.items ++ flat_blocks (length l.found.pieces.items) (drop l.index l.rows) (drop l.index l.places) (drop l.index l.lines) ≡ flat_blocks 0 l.rows l.places l.lines;
  pieces : l.found.pieces.items ++ flat_pieces (drop l.index l.rows) ≡ flat_pieces l.rows;
}
