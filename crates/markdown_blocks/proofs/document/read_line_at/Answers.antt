use Rattle.std.proofs.Common.{◌≤◌, subst, sym}
use Rattle.markdown_block_model.specs.BlockTree.{Tree}
use Rattle.markdown_block_model.specs.BlockLines.{block_count}
use Rattle.markdown_block_model.proofs.BlocksBeginOnLines.{read-more}
use Rattle.markdown_blocks.specs.BlockRows.{whole_tree}
use Rattle.markdown_blocks.proofs.PlacedPieces.{line-between}
use Rattle.markdown_block_line.specs.LineBlocks.{extensions_of}
use Rattle.markdown_blocks.proofs.document.read_line_at.Goals as goal

pub returns-clause-characters : goal.returns-clause-characters
returns-clause-characters g c = line-between c.args.bytes.now c.args.start _ c.requires.is_point c.in_ok-line.ensures.line

pub returns-clause-texts : goal.returns-clause-texts
returns-clause-texts g c = rw c.in_ok-line.ensures.line.stop at (rw c.new.ensures at c.in_ok-read_line.ensures.texts)

pub returns-clause-more : goal.returns-clause-more
returns-clause-more g c =
    let before = whole_tree c.args.bytes.now c.args.reader.now in
    subst (λ (t : Tree). block_count before ≤ block_count t) (sym (rw c.new.ensures at c.in_ok-read_line.ensures.tree)) (read-more (extensions_of c.args.extensions) g.T.HasText.has_text _ before)
