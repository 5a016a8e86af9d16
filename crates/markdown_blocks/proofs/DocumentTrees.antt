-- The tree of a document, line by line.
use Rattle.std.proofs.Common.{◌≡◌, ℕ, ◌≤◌, ap, ◌∙◌, sym, List, [], length, Bool}
use Rattle.markdown_event.specs.declared.event.Point.{Point}
use Rattle.markdown_content.specs.Codes.{Code, place_of}
use Rattle.markdown_content.specs.DocumentWalk.{IsPoint, codes_after}
use Rattle.markdown_content.proofs.DocumentPlaces.{codes-point, stands-point}
use Rattle.markdown_content.proofs.DocumentWalkLemmas.{past-end}
use Rattle.markdown_block_model.specs.LineRests.{lines_of}
use Rattle.markdown_block_model.specs.DocumentBlocks.{read_lines}
use Rattle.markdown_block_model.specs.BlockLines.{begins_from}
use Rattle.markdown_blocks.specs.BlockRows.{whole_tree}
use Rattle.markdown_blocks.specs.LinesLeft.{begins_on, read_on}
use Rattle.markdown_blocks.specs.declared.reader.Reader.{Reader}
use Rattle.markdown_block_line.specs.LineBlocks.{extensions_of}
use Rattle.markdown_block_line.specs.declared.extensions.Extensions.{Extensions}

-- behind the last line
pub read-all : (ext : Extensions) (has_text : List Code → Bool) (bytes : List ℕ) (r : Reader) (p : Point) → IsPoint bytes p → length bytes ≤ p.index → read_on ext has_text bytes r p ≡ whole_tree bytes r
read-all ext has_text bytes r p h l =
    let none : codes_after bytes (place_of p) ≡ [] = sym (codes-point bytes p h) ∙ past-end bytes p (stands-point bytes p h) l in
    ap (λ (cs : List Code). read_lines (extensions_of ext) has_text (lines_of cs) (whole_tree bytes r)) none

-- the same of the lines on which blocks begin
pub begins-all : (ext : Extensions) (has_text : List Code → Bool) (number : ℕ) (bytes : List ℕ) (r : Reader) (p : Point) → IsPoint bytes p → length bytes ≤ p.index → begins_on ext has_text number bytes r p ≡ []
begins-all ext has_text number bytes r p h l =
    let none : codes_after bytes (place_of p) ≡ [] = sym (codes-point bytes p h) ∙ past-end bytes p (stands-point bytes p h) l in
    ap (λ (cs : List Code). begins_from (extensions_of ext) has_text number (lines_of cs) (whole_tree bytes r)) none
