-- The lines of a document that are left to read.
use Rattle.std.specs.Prelude.{◌≡◌, ◌≤◌, ◌++◌, ℕ, suc, Bool, List, length, Option, None, if◌then◌else◌}
use Rattle.markdown_event.specs.declared.event.Point.{Point}
use Rattle.markdown_content.specs.Codes.{Code, place_of}
use Rattle.markdown_content.specs.DocumentWalk.{IsPoint, codes_after}
use Rattle.markdown_block_model.specs.ByteOrderMark.{document_codes}
use Rattle.markdown_block_model.specs.LineRests.{lines_of}
use Rattle.markdown_block_model.specs.FrontMatter.{matter_at}
use Rattle.markdown_block_model.specs.BlockLines.{begins_from, begins_of, block_count}
use Rattle.markdown_block_model.specs.BlockTree.{Tree}
use Rattle.markdown_block_model.specs.DocumentBlocks.{read_lines, blocks_of}
use Rattle.markdown_block_line.specs.LineBlocks.{extensions_of}
use Rattle.markdown_block_line.specs.declared.extensions.Extensions.{Extensions}
use Rattle.markdown_blocks.specs.BlockRows.{whole_tree, IsBetween}
use Rattle.markdown_blocks.specs.TextRows.{StandsBetween, HasPlacedTexts}
use Rattle.markdown_blocks.specs.declared.document.Progress.{Progress}
use Rattle.markdown_blocks.specs.declared.reader.Reader.{Reader}

-- the text of a document begins at a place, which stands between characters
pub record IsTextStart (bytes : List ℕ) (p : Point) : Type 0 where
  pub is_point : IsPoint bytes p
  pub codes : codes_after bytes (place_of p) ≡ document_codes bytes
  pub between : StandsBetween bytes p

-- the tree of what is read and of the lines from a place on
abbrev pub read_on : Extensions → (List Code → Bool) → List ℕ → Reader → Point → Tree
read_on ext has_text bytes r p = read_lines (extensions_of ext) has_text (lines_of (codes_after bytes (place_of p))) (whole_tree bytes r)

-- the line on which each block begins that these lines bring, where the first of them has this number
abbrev pub begins_on : Extensions → (List Code → Bool) → ℕ → List ℕ → Reader → Point → List ℕ
begins_on ext has_text number bytes r p = begins_from (extensions_of ext) has_text number (lines_of (codes_after bytes (place_of p))) (whole_tree bytes r)

-- the front matter of a document's lines and the lines after it, where it is to be read
abbrev pub document_matter : Extensions → List ℕ → Option (List (List Code) × List (List Code))
document_matter ext bytes = if ext.front_matter then matter_at (lines_of (document_codes bytes)) else None

-- what was read of a document
pub record IsProgress (ext : Extensions) (has_text : List Code → Bool) (bytes : List ℕ) (p : Progress) : Type 0 where
  pub is_point : IsPoint bytes p.point
  pub between : IsBetween bytes p.reader
  pub characters : StandsBetween bytes p.point
  pub texts : HasPlacedTexts bytes p.point p.reader
  pub same : read_on ext has_text bytes p.reader p.point ≡ blocks_of (extensions_of ext) has_text bytes
  pub begins : p.lines.items ++ begins_on ext has_text p.number bytes p.reader p.point ≡ begins_of (extensions_of ext) has_text bytes
  pub lined : length p.lines.items ≡ block_count (whole_tree bytes p.reader)
  pub numbered : p.number ≤ suc p.point.index
