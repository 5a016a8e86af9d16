-- How a place in the document stands for a place in a content.
use Rattle.std.specs.Prelude.{◌≡◌, ℕ, ◌+◌, ◌*◌, ◌≤◌, Bool, false, not, ◌&&◌, ◌==◌, List, [], ◌∷◌, ◌++◌, drop, filter, IsTrue, if◌then◌else◌, Option, Some}
use Rattle.markdown_event.specs.declared.event.Point.{Point}
use Rattle.markdown_content.specs.declared.parser.Piece.{Piece}
use Rattle.markdown_content.specs.Codes.{Code, line_feed, document_start, is_at_or_after, is_code_before, place_of, point_at}
use Rattle.markdown_content.specs.Content.{IsContent, content_of, content_end, are_pieces, ends_line}
use Rattle.markdown_content.specs.DocumentWalk.{IsPoint, codes_after}
use Rattle.markdown_content.specs.Place.{Place, start_of_content, code_before, exit_point}

-- a place is not the end of the first of these pieces
abbrev pub is_open : ℕ × ℕ → List Piece → Bool
is_open at [] = false
is_open at (piece ∷ rest) = not (at.0 == piece.end.0 && at.1 == piece.end.1)

-- the codes of the pieces from a place in the first of them on
abbrev pub codes_in : List ℕ → ℕ × ℕ → List Piece → List Code
codes_in bytes at [] = []
codes_in bytes at (piece ∷ rest) = filter (is_code_before piece.end) (codes_after bytes at) ++ content_of bytes rest

-- a place is not after the first piece
abbrev pub IsInFirstPiece : Point → List Piece → Type 0
IsInFirstPiece p [] = p ≡ document_start
IsInFirstPiece p (piece ∷ rest) = IsTrue (is_at_or_after (place_of p) piece.end)

-- a place at the end of a piece is in the last piece
abbrev pub IsEntered : ℕ × ℕ → List Piece → Type 0
IsEntered at [] = Unit {0}
IsEntered at (piece ∷ rest) = elim rest [ [] ↦ Unit {0} | next ∷ more ↦ IsTrue (is_open at (piece ∷ [])) ]

-- a piece that another one follows goes on from a place in it to the end of a line
abbrev pub EndsLine : List ℕ → ℕ × ℕ → List Piece → Type 0
EndsLine bytes at [] = Unit {0}
EndsLine bytes at (piece ∷ rest) =
    elim rest [ [] ↦ Unit {0} | next ∷ more ↦ IsTrue (ends_line (filter (is_code_before piece.end) (codes_after bytes at))) ]

-- a place of the document in the first of the pieces that are left, with so many codes of the content before it
pub record IsStanding (bytes : List ℕ) (pieces left : List Piece) (point : Point) (passed : ℕ) : Type 0 where
  pub content : IsContent bytes pieces
  pub is_point : IsPoint bytes point
  pub in_order : IsTrue (are_pieces bytes left)
  pub ahead : drop passed (content_of bytes pieces) ≡ codes_in bytes (place_of point) left
  pub within : IsInFirstPiece point left
  pub entered : IsEntered (place_of point) left
  pub line : EndsLine bytes (place_of point) left
  pub end : content_end bytes left ≡ content_end bytes pieces
  pub count : passed ≤ 4 * point.index + point.vs

-- where the first code of some pieces stands
abbrev pub first_point : List ℕ → List Piece → Point
first_point bytes [] = document_start
first_point bytes (piece ∷ rest) = point_at bytes piece.start

-- the piece and the place of the next code, after a code of the first of these pieces, which has this number
abbrev pub followed : List ℕ → ℕ → Point → List Piece → ℕ × Point
followed bytes piece p [] = (piece, p)
followed bytes piece p (here ∷ rest) =
    elim rest [
      | [] ↦ (piece, p)
      | next ∷ more ↦ if is_open (place_of p) (here ∷ []) then (piece, p) else (piece + 1, point_at bytes next.start)
    ]

-- the place in a content with so many codes before it
abbrev pub content_place : List ℕ → List Piece → ℕ → Place
content_place bytes pieces n = record (start_of_content bytes pieces) { at = n }

-- a place in a content of this document
pub record IsPlaceOf (bytes : List ℕ) (p : Place) : Type 0 where
  pub pieces : List Piece
  pub content : IsContent bytes pieces
  pub place : p ≡ content_place bytes pieces p.at

-- what a cursor keeps: where it stands, the code before it and where an event that ends there stands
pub record IsCursor (bytes : List ℕ) (pieces : List Piece) (piece : ℕ) (point exit : Point) (previous : Option ℕ) (passed : ℕ) : Type 0 where
  pub standing : IsStanding bytes pieces (drop piece pieces) point passed
  pub before : previous ≡ code_before (content_place bytes pieces passed)
  pub exits : exit ≡ exit_point (content_place bytes pieces passed)
  pub after_line : previous ≡ Some line_feed → (exit.column ≡ 1) × (exit.vs ≡ 0)
  pub within_line : (previous ≡ Some line_feed → ⊥) → exit ≡ point

-- a content of these pieces begins on this line, in this column
pub record BeginsAt (bytes : List ℕ) (pieces : List Piece) (first_line first_column : ℕ) : Type 0 where
  pub line : first_line ≡ (first_point bytes pieces).line
  pub column : first_column ≡ (first_point bytes pieces).column
