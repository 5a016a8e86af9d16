use Rattle.std.proofs.Common.{◌≡◌, length, suc}
use Rattle.markdown_block_model.specs.BlockStarts.{with_rest}
use Rattle.markdown_blocks.specs.TreeDepth.{at_depth}
use Rattle.markdown_blocks.specs.BlockRows.{Begins, depth, closed_tree}
use Rattle.markdown_blocks.specs.TextRows.{HasPlacedRows}
use Rattle.markdown_block_line.specs.LineBlocks.{extensions_of}
use Rattle.markdown_blocks.proofs.read.begin_rest.Given as goal

abbrev pub invariant-loop-outside : goal.invariant-loop-outside
invariant-loop-outside l = record {
  same_bytes : l.inner.bytes ≡ l.rest.bytes;
  same_start : l.inner.start ≡ l.rest.start;
  same_extensions : l.inner.extensions ≡ l.rest.extensions;
  texts : HasPlacedRows l.rest.bytes l.reader;
  begins : Begins l.rest.extensions l.rest.bytes l.inner.codes l.reader (at_depth (depth l.initial.reader) (with_rest (extensions_of l.rest.extensions) (suc (length l.rest.codes)) l.rest.codes) (closed_tree l.rest.bytes l.initial.reader));
}

abbrev pub decreases-loop-outside : goal.decreases-loop-outside
decreases-loop-outside l = length l.inner.codes
