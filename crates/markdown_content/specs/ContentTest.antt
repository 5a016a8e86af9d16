-- What the test of a content finds, stretch by stretch.
use Rattle.std.specs.Prelude.{◌≡◌, ℕ, zero, suc, ◌+◌, Bool, true, false, ◌&&◌, List, MatchOption, Option, filter}
use Rattle.std.specs.List.{list_any}
use Rattle.markdown_content.specs.declared.content.Stretch.{Stretch}
use Rattle.markdown_event.specs.declared.event.Point.{Point}
use Rattle.markdown_content.specs.declared.parser.Piece.{Piece}
use Rattle.markdown_content.specs.Codes.{Code, codes_of, is_at_or_after, is_code_before, is_line_ending, place_of, point_at}
use Rattle.markdown_content.specs.Content.{is_place, is_piece, piece_codes, ends_line, is_one_line}
use Rattle.markdown_content.specs.DocumentWalk.{codes_after}

-- the codes from a place to another
abbrev pub codes_up : List ℕ → Point → ℕ × ℕ → List Code
codes_up bytes p at = filter (is_code_before at) (codes_after bytes (place_of p))

-- a stretch from a place to a place of the document
pub record IsStretchTo (bytes : List ℕ) (p : Point) (at : ℕ × ℕ) (s : Stretch) : Type 0 where
  pub place : is_place bytes at ≡ true
  pub point : s.point ≡ point_at bytes at
  pub lines : s.has_line_ending ≡ list_any is_line_ending (codes_up bytes p at)
  pub ends : s.ends_line ≡ ends_line (codes_up bytes p at)

-- the stretch to a place, if it is one
abbrev pub ReachesStretch : List ℕ → Point → ℕ × ℕ → Option Stretch → Type 0
ReachesStretch bytes p at s = MatchOption s (is_place bytes at ≡ false) (IsStretchTo bytes p at)

-- the place so many columns on, at a byte
abbrev pub columns_on : Point → ℕ → Point
columns_on p m = record { line = p.line; column = p.column + m; index = p.index + m; vs = 0 }

-- a stretch with so many bytes behind it that are codes by themselves, and no line endings
abbrev pub longer_by : ℕ → Stretch → Stretch
longer_by zero s = s
longer_by (suc m) s = record { point = columns_on s.point (suc m); has_line_ending = s.has_line_ending; ends_line = false }

-- the end of a piece, and whether its last code is a line ending
pub record IsPieceEnd (bytes : List ℕ) (piece : Piece) (s : Stretch) : Type 0 where
  pub piece_is : is_piece bytes piece ≡ true
  pub point : s.point ≡ point_at bytes piece.end
  pub ends : s.ends_line ≡ ends_line (piece_codes (codes_of bytes) piece)

abbrev pub PassesPiece : List ℕ → Piece → Option Stretch → Type 0
PassesPiece bytes piece s = MatchOption s (is_piece bytes piece ≡ false) (IsPieceEnd bytes piece)

-- a piece may follow one that ends here, if that one ends a line
abbrev pub may_follow : List ℕ → Bool → ℕ × ℕ → ℕ × ℕ → Bool
may_follow bytes ended low high = ended && (is_at_or_after low high && is_one_line bytes low high)

abbrev pub PassesNext : List ℕ → Bool → Point → Piece → Option Stretch → Type 0
PassesNext bytes ended p piece s =
    MatchOption s ((may_follow bytes ended (place_of p) piece.start && is_piece bytes piece) ≡ false) (λ (t : Stretch). (may_follow bytes ended (place_of p) piece.start ≡ true) × IsPieceEnd bytes piece t)
