use Rattle.std.proofs.Common.{◌≡◌, ◌≤◌, ◌-◌, Bool, List}
use Rattle.markdown_content.specs.Codes.{Code}
use Rattle.markdown_block_model.specs.DocumentBlocks.{read_line}
use Rattle.markdown_blocks.specs.TreeDepth.{at_depth}
use Rattle.markdown_blocks.specs.BlockRows.{whole_tree, depth}
use Rattle.markdown_block_line.specs.LineBlocks.{extensions_of}
use Rattle.markdown_blocks.proofs.read.go_on.Given as goal

abbrev pub invariant-loop-depth : goal.invariant-loop-depth
invariant-loop-depth l = record {
  within : l.depth ≤ depth l.reader;
  same_bytes : l.inner.bytes ≡ l.rest.bytes;
  same_start : l.inner.start ≡ l.rest.start;
  same_extensions : l.inner.extensions ≡ l.rest.extensions;
  tree : (has_text : List Code → Bool) → read_line (extensions_of l.rest.extensions) has_text l.rest.codes (whole_tree l.rest.bytes l.reader) ≡ at_depth l.depth (read_line (extensions_of l.rest.extensions) has_text l.inner.codes) (whole_tree l.rest.bytes l.reader);
}

abbrev pub decreases-loop-depth : goal.decreases-loop-depth
decreases-loop-depth l = depth l.reader - l.depth
