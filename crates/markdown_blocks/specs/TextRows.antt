-- Texts that the inline layer takes: their pieces stand in order, and between characters.
use Rattle.std.specs.Prelude.{◌≡◌, ℕ, ◌<◌, Bool, true, false, ◌&&◌, not, nat_lt, List, [], ◌∷◌, length, Option, Some, None, IsUtf8, All}
use Rattle.std.specs.Str.{IsCharBoundary}
use Rattle.markdown_event.specs.declared.event.Point.{Point}
use Rattle.markdown_content.specs.declared.parser.Piece.{Piece}
use Rattle.markdown_content.specs.Codes.{Code, codes_of, is_at_or_after, is_line_ending, place_of, stop_of}
use Rattle.markdown_content.specs.Content.{is_piece, are_pieces, is_one_line, ends_line, piece_codes, content_of, IsBetweenCharacters}
use Rattle.markdown_model.specs.CodeTests.{is_empty}
use Rattle.markdown_block_model.specs.LineRests.{trimmed_end}
use Rattle.markdown_block_model.specs.TextStarts.{lines_begin, is_line}
use Rattle.markdown_block_line.specs.DocumentLines.{line_from}
use Rattle.markdown_blocks.specs.NestedRows.{AreNested}
use Rattle.markdown_blocks.specs.declared.block.Leaf.{Leaf}
use Rattle.markdown_blocks.specs.declared.block.Leaf.TheVariants.{Blank, ThematicBreak, Heading, Underlined, Paragraph, IndentedCode, FencedCode, Html, FrontMatter}
use Rattle.markdown_blocks.specs.declared.block.Row.{Row}
use Rattle.markdown_blocks.specs.declared.block.Row.TheVariants.{LeafAt, ContainerAt}
use Rattle.markdown_blocks.specs.declared.reader.Reader.{Reader}
use Rattle.markdown_blocks.specs.declared.leaves.Next.{Next}
use Rattle.markdown_blocks.specs.declared.leaves.Next.TheVariants.{WithLine, Without}

-- no code of a piece stands behind a line ending
abbrev pub IsLinePiece : List ℕ → Piece → Type 0
IsLinePiece bytes p = is_line (piece_codes (codes_of bytes) p) ≡ true

abbrev pub HasCodes : List ℕ → Piece → Type 0
HasCodes bytes p = is_empty (piece_codes (codes_of bytes) p) ≡ false

-- Pieces of a document are in order, stand between characters if it is UTF-8, and each is of one line.
pub record AreLinePieces (bytes : List ℕ) (pieces : List Piece) : Type 0 where
  pub in_order : are_pieces bytes pieces ≡ true
  pub between_characters : IsUtf8 bytes → All (IsBetweenCharacters bytes) pieces
  pub one_line_each : All (IsLinePiece bytes) pieces

-- and each line of theirs begins with no whitespace
pub record ArePlaced (bytes : List ℕ) (pieces : List Piece) : Type 0 where
  pub in_order : are_pieces bytes pieces ≡ true
  pub between_characters : IsUtf8 bytes → All (IsBetweenCharacters bytes) pieces
  pub one_line_each : All (IsLinePiece bytes) pieces
  pub lines : lines_begin true (content_of bytes pieces) ≡ true

-- and the text ends with no whitespace
pub record IsTrimmedText (bytes : List ℕ) (pieces : List Piece) : Type 0 where
  pub placed : ArePlaced bytes pieces
  pub ends : trimmed_end (content_of bytes pieces) ≡ content_of bytes pieces

-- the texts of a leaf, its lines of code, and its info string; each line of HTML has codes
abbrev pub HasPlacedText : List ℕ → Leaf → Type 0
HasPlacedText bytes Blank = Unit {0}
HasPlacedText bytes ThematicBreak = Unit {0}
HasPlacedText bytes (Heading n piece) = IsTrimmedText bytes (piece ∷ [])
HasPlacedText bytes (Underlined n text) = ArePlaced bytes text.items
HasPlacedText bytes (Paragraph text) = ArePlaced bytes text.items
HasPlacedText bytes (IndentedCode ls) = AreLinePieces bytes ls.items
HasPlacedText bytes (FencedCode f info ls ended) = AreLinePieces bytes (info ∷ []) × AreLinePieces bytes ls.items
HasPlacedText bytes (Html k text ended) = AreLinePieces bytes text.items × All (HasCodes bytes) text.items
HasPlacedText bytes (FrontMatter ls) = AreLinePieces bytes ls.items

abbrev pub IsPlacedRow : List ℕ → Row → Type 0
IsPlacedRow bytes (LeafAt d l) = HasPlacedText bytes l
IsPlacedRow bytes (ContainerAt d c) = Unit {0}

-- What the reader keeps.

-- a place stands between characters
abbrev pub StandsBetween : List ℕ → Point → Type 0
StandsBetween bytes p = IsUtf8 bytes → IsCharBoundary bytes p.index

-- what may stand on a line before its text: a code that is ASCII, and no line ending
abbrev pub is_outer : Code → Bool
is_outer c = nat_lt c.value 128 && not (is_line_ending c)

-- no code is there, or one that is ASCII
abbrev pub begins_ascii : List Code → Bool
begins_ascii [] = true
begins_ascii (c ∷ cs) = nat_lt c.value 128

-- where the line ends that begins at a place
abbrev pub line_stop : List ℕ → Point → Point
line_stop bytes p = stop_of p (line_from bytes p)

-- a piece up to the end of the line that begins at a place
pub record IsLineRest (bytes : List ℕ) (start : Point) (piece : Piece) : Type 0 where
  pub begins : start.index < length bytes
  pub is : is_piece bytes piece ≡ true
  pub between_characters : IsUtf8 bytes → IsBetweenCharacters bytes piece
  pub after : is_at_or_after (place_of start) piece.start ≡ true
  pub one_line : is_one_line bytes (place_of start) piece.start ≡ true
  pub end : piece.end ≡ place_of (line_stop bytes start)
  pub is_line : IsLinePiece bytes piece
  pub ends : (line_stop bytes start).index < length bytes → ends_line (piece_codes (codes_of bytes) piece) ≡ true

-- and it begins with no whitespace
pub record IsLineEnd (bytes : List ℕ) (start : Point) (piece : Piece) : Type 0 where
  pub rest : IsLineRest bytes start piece
  pub lines : lines_begin true (piece_codes (codes_of bytes) piece) ≡ true

-- the last piece ends a line, at a place
abbrev pub EndAt : List ℕ → Point → List Piece → Type 0
EndAt bytes p [] = ⊥
EndAt bytes p (piece ∷ rest) =
    elim rest [
      | [] ↦ (piece.end ≡ place_of p) × (ends_line (piece_codes (codes_of bytes) piece) ≡ true)
      | next ∷ more ↦ EndAt bytes p rest
    ]

-- where there is one
abbrev pub LinesEnd : List ℕ → Point → List Piece → Type 0
LinesEnd bytes p [] = Unit {0}
LinesEnd bytes p (piece ∷ rest) = EndAt bytes p (piece ∷ rest)

-- a leaf that the line at a place may continue
abbrev pub EndsBefore : List ℕ → Point → Leaf → Type 0
EndsBefore bytes p (Paragraph text) = p.index < length bytes → EndAt bytes p text.items
EndsBefore bytes p Blank = Unit {0}
EndsBefore bytes p ThematicBreak = Unit {0}
EndsBefore bytes p (Heading n piece) = Unit {0}
EndsBefore bytes p (Underlined n text) = Unit {0}
EndsBefore bytes p (IndentedCode ls) = p.index < length bytes → LinesEnd bytes p ls.items
EndsBefore bytes p (FencedCode f info ls ended) = ended ≡ false → p.index < length bytes → LinesEnd bytes p ls.items
EndsBefore bytes p (Html k text ended) = p.index < length bytes → LinesEnd bytes p text.items
EndsBefore bytes p (FrontMatter ls) = Unit {0}

abbrev pub IsOpenLeaf : List ℕ → Point → Leaf → Type 0
IsOpenLeaf bytes p l = HasPlacedText bytes l × EndsBefore bytes p l

abbrev pub IsOpen : List ℕ → Point → Option Leaf → Type 0
IsOpen bytes p None = Unit {0}
IsOpen bytes p (Some l) = IsOpenLeaf bytes p l

-- a leaf that the line before a place continues
abbrev pub IsOpenNext : List ℕ → Point → Next → Type 0
IsOpenNext bytes p (WithLine l) = IsOpenLeaf bytes p l
IsOpenNext bytes p (Without l) = Unit {0}

-- the rows of the closed blocks
abbrev pub HasPlacedRows : List ℕ → Reader → Type 0
HasPlacedRows bytes r = All (IsPlacedRow bytes) r.rows.items × AreNested 0 r.rows.items

-- before the line that begins at a place
abbrev pub HasPlacedTexts : List ℕ → Point → Reader → Type 0
HasPlacedTexts bytes p r = HasPlacedRows bytes r × IsOpen bytes p r.open
