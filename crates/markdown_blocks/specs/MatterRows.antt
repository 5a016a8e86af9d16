-- The front matter of a document, as it was read.
use Rattle.std.specs.Prelude.{◌≡◌, ℕ, ◌+◌, ◌≤◌, List, map, length, MatchOption, Option, Some, None}
use Rattle.markdown_content.specs.Codes.{Code, codes_of, place_of}
use Rattle.markdown_content.specs.Content.{piece_codes}
use Rattle.markdown_content.specs.DocumentWalk.{IsPoint, codes_after}
use Rattle.markdown_block_model.specs.LineRests.{lines_of}
use Rattle.markdown_blocks.specs.TextRows.{AreLinePieces, StandsBetween}
use Rattle.markdown_blocks.specs.declared.matter.Matter.{Matter}

-- its lines, and those after it
abbrev pub matter_of : List ℕ → Matter → List (List Code) × List (List Code)
matter_of bytes m = (map (piece_codes (codes_of bytes)) m.lines.items, lines_of (codes_after bytes (place_of m.stop)))

-- at least so many bytes, and one for each line of it, stand before its end
pub record IsMatter (bytes : List ℕ) (least : ℕ) (m : Matter) : Type 0 where
  pub is_point : IsPoint bytes m.stop
  pub between : StandsBetween bytes m.stop
  pub placed : AreLinePieces bytes m.lines.items
  pub counted : least + length m.lines.items ≤ m.stop.index

abbrev pub HasMatter : List ℕ → ℕ → Option (List (List Code) × List (List Code)) → Option Matter → Type 0
HasMatter bytes least found result = MatchOption result (found ≡ None) (λ m. (found ≡ Some (matter_of bytes m)) × IsMatter bytes least m)
