-- A content: pieces of a document, whose codes are read as one.
use Rattle.std.specs.Prelude.{ℕ, ◌-◌, ◌/◌, ◌^◌, ◌≤◌, Bool, true, false, ◌&&◌, ◌||◌, not, ◌==◌, List, [], ◌∷◌, length, filter, flat_map, IsTrue, IsUtf8, All}
use Rattle.std.specs.List.{list_any}
use Rattle.std.specs.Str.{IsCharBoundary}
use Rattle.markdown_event.specs.declared.event.Point.{Point}
use Rattle.markdown_content.specs.declared.parser.Piece.{Piece}
use Rattle.markdown_content.specs.Codes.{Code, codes_of, document_start, is_at_or_after, is_code_before, point_at, is_line_ending, is_blank}

-- the code begins within the piece
abbrev pub is_in_piece : Piece → Code → Bool
is_in_piece piece c = not (is_code_before piece.start c) && is_code_before piece.end c

abbrev pub piece_codes : List Code → Piece → List Code
piece_codes cs piece = filter (is_in_piece piece) cs

-- the codes of the pieces, in order
abbrev pub content_of : List ℕ → List Piece → List Code
content_of bytes pieces = flat_map (piece_codes (codes_of bytes)) pieces

-- where a content ends: with its last piece
abbrev pub content_end : List ℕ → List Piece → Point
content_end bytes [] = document_start
content_end bytes (piece ∷ rest) = elim rest [ [] ↦ point_at bytes piece.end | next ∷ more ↦ content_end bytes rest ]

-- The condition of a content.

-- the longest document, in bytes: an eighth of what a `usize` holds
abbrev pub document_limit : ℕ
document_limit = (2 ^ 64 - 1) / 8

-- a place of the document: its start, or the end of a code. So none stands inside a CR LF.
abbrev pub is_place : List ℕ → ℕ × ℕ → Bool
is_place bytes at =
    (at.0 == 0 && at.1 == 0) || list_any (λ c. c.stop.index == at.0 && c.stop.vs == at.1) (codes_of bytes)

-- both ends are places, and the end is not before the start
abbrev pub is_piece : List ℕ → Piece → Bool
is_piece bytes piece =
    (is_place bytes piece.start && is_place bytes piece.end) && is_at_or_after piece.start piece.end

-- there are codes, and the last one is a line ending
abbrev pub ends_line : List Code → Bool
ends_line [] = false
ends_line (c ∷ cs) = elim cs [ [] ↦ is_line_ending c | d ∷ ds ↦ ends_line cs ]

-- no code between the two places is a line ending
abbrev pub is_one_line : List ℕ → ℕ × ℕ → ℕ × ℕ → Bool
is_one_line bytes low high =
    not (list_any is_line_ending (piece_codes (codes_of bytes) (record { start = low; end = high })))

-- each piece but the last is codes up to a line ending, and the next one starts on the line after it
abbrev pub are_pieces : List ℕ → List Piece → Bool
are_pieces bytes [] = true
are_pieces bytes (piece ∷ rest) =
    (is_piece bytes piece && are_pieces bytes rest)
    && (elim rest [
      | [] ↦ true
      | next ∷ more ↦ ends_line (piece_codes (codes_of bytes) piece)
          && (is_at_or_after piece.end next.start && is_one_line bytes piece.end next.start)
    ])

-- both ends of a piece stand between characters of the text
abbrev pub IsBetweenCharacters : List ℕ → Piece → Type 0
IsBetweenCharacters bytes piece = IsCharBoundary bytes piece.start.0 × IsCharBoundary bytes piece.end.0

pub record IsContent (bytes : List ℕ) (pieces : List Piece) : Type 0 where
  pub is_text : IsUtf8 bytes
  pub fits : length bytes ≤ document_limit
  pub between_characters : All (IsBetweenCharacters bytes) pieces
  pub in_order : IsTrue (are_pieces bytes pieces)

-- Text content (the inside of a paragraph, CommonMark 4.8): no line is blank, and the last one has no line ending.

-- whether each line has a code that is not blank, the line that begins here included; `filled` says that it has one already
abbrev pub has_no_blank_line : Bool → List Code → Bool
has_no_blank_line filled [] = filled
has_no_blank_line filled (c ∷ cs) =
    elim (is_line_ending c) [
      | true ↦ filled && has_no_blank_line false cs
      | false ↦ has_no_blank_line (filled || not (is_blank c)) cs
    ]

abbrev pub is_text_codes : List Code → Bool
is_text_codes [] = true
is_text_codes (c ∷ cs) = has_no_blank_line false (c ∷ cs)

pub record IsTextContent (bytes : List ℕ) (pieces : List Piece) : Type 0 where
  pub is_content : IsContent bytes pieces
  pub is_filled : IsTrue (is_text_codes (content_of bytes pieces))
