-- Texts without the whitespace at their end.
use Rattle.std.specs.Prelude.{◌≡◌, ℕ, ◌<◌, ◌≤◌, Bool, true, ◌||◌, ◌==◌, List, [], length, get_or, IsUtf8}
use Rattle.markdown_content.specs.declared.parser.Piece.{Piece}
use Rattle.markdown_content.specs.Codes.{codes_of}
use Rattle.markdown_content.specs.Content.{is_place, is_piece, are_pieces, piece_codes, content_of, IsBetweenCharacters}
use Rattle.markdown_block_model.specs.LineRests.{trimmed_end}
use Rattle.markdown_blocks.specs.TextRows.{ArePlaced}

-- a space, a tab, or one of a line ending
abbrev pub is_space_byte : ℕ → Bool
is_space_byte b = ((b == 32 || b == 9) || b == 10) || b == 13

-- a piece without the whitespace at its end, which has a code
pub record IsTrimmedPiece (bytes : List ℕ) (piece short : Piece) : Type 0 where
  pub start : short.start ≡ piece.start
  pub is : is_piece bytes short ≡ true
  pub codes : piece_codes (codes_of bytes) short ≡ trimmed_end (piece_codes (codes_of bytes) piece)
  pub some : piece_codes (codes_of bytes) short ≡ [] → ⊥
  pub between_characters : IsUtf8 bytes → IsBetweenCharacters bytes piece → IsBetweenCharacters bytes short

-- what holds of the place up to which whitespace is passed
pub record IsPassed (bytes : List ℕ) (s e : ℕ × ℕ) (index : ℕ) : Type 0 where
  pub start : is_place bytes s ≡ true
  pub end : is_place bytes e ≡ true
  pub low : s.0 ≤ index
  pub high : index ≤ e.0
  pub within : index ≤ length bytes
  pub spaces : (i : ℕ) → index ≤ i → i < e.0 → is_space_byte (get_or bytes i 0) ≡ true

-- what is left of a text while whitespace is cut off
pub record IsTrimming (bytes : List ℕ) (text left : List Piece) : Type 0 where
  pub in_order : are_pieces bytes left ≡ true
  pub codes : trimmed_end (content_of bytes left) ≡ trimmed_end (content_of bytes text)
  pub placed : ArePlaced bytes text → ArePlaced bytes left
