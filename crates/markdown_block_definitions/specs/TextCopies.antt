-- The codes of a text, from place to place.
use Rattle.std.specs.Prelude.{◌≡◌, ℕ, ◌+◌, ◌-◌, ◌*◌, ◌%◌, ◌≤◌, Bool, true, false, ◌&&◌, ◌||◌, nat_lt, ◌==◌, List, ◌∷◌, ◌++◌, drop, filter, length, replicate, slice_index, slice_range, if◌then◌else◌}
use Rattle.std.specs.List.{list_all}
use Rattle.markdown_event.specs.declared.event.Point.{Point}
use Rattle.markdown_content.specs.Codes.{Code, place_of, is_line_ending_byte, line_ending_len}
use Rattle.markdown_content.specs.Content.{is_in_piece}
use Rattle.markdown_content.specs.DocumentWalk.{IsPoint, codes_after}
use Rattle.markdown_content.specs.declared.parser.Piece.{Piece}
use Rattle.markdown_model.specs.CodeTests.{values_of}
use Rattle.markdown_block_definitions.specs.TextReadings.{firsts_of}
use Rattle.markdown_block_definitions.specs.declared.copy.Spot.{Spot}

-- where the spot stands, on this line and in this column
abbrev pub point_of : Spot → ℕ → ℕ → Point
point_of s l c = record { line = l; column = c; index = s.index; vs = s.vs }

abbrev pub spot_place : Spot → ℕ × ℕ
spot_place s = (s.index, s.vs)

-- the start of a line
abbrev pub line_spot : ℕ → Spot
line_spot i = record { index = i; vs = 0; phase = 0 }

-- it is a place of the document, so many columns behind a tab stop
pub record IsSpot (bytes : List ℕ) (s : Spot) : Type 0 where
  pub line : ℕ
  pub column : ℕ
  pub is_point : IsPoint bytes (point_of s line column)
  pub phase : (column - 1) % 4 ≡ s.phase

-- a line ends right before the byte of an index
pub record EndsLine (bytes : List ℕ) (i : ℕ) : Type 0 where
  pub byte : is_line_ending_byte (slice_index bytes (i - 1)) ≡ true
  pub whole : line_ending_len (slice_index bytes (i - 1)) (drop (i - 1 + 1) bytes) ≡ 1

-- the code at the first place has this value, and ends at the second
pub record IsRead (bytes : List ℕ) (s : Spot) (value : ℕ) (t : Spot) : Type 0 where
  pub code : Code
  pub codes : codes_after bytes (spot_place s) ≡ code ∷ codes_after bytes (spot_place t)
  pub values : code.value ≡ value
  pub starts : place_of code.start ≡ spot_place s
  pub stands : IsSpot bytes t
  pub later : 4 * s.index + s.vs + 1 ≤ 4 * t.index + t.vs

-- the place behind a column of a tab
abbrev pub past_tab : Spot → Spot
past_tab s = if nat_lt s.phase 3 then record { index = s.index; vs = s.vs + 1; phase = s.phase + 1 } else record { index = s.index + 1; vs = 0; phase = 0 }

abbrev pub is_spot_before : Spot → ℕ × ℕ → Bool
is_spot_before s at = nat_lt s.index at.0 || (s.index == at.0 && nat_lt s.vs at.1)

-- values and marks, longer by those of some codes
pub record IsLonger (values : List ℕ) (firsts : List Bool) (more_values : List ℕ) (more_firsts : List Bool) (cs : List Code) : Type 0 where
  pub values_more : more_values ≡ values ++ values_of cs
  pub firsts_more : more_firsts ≡ firsts ++ firsts_of cs

-- the codes of a piece from a place on
abbrev pub codes_left : List ℕ → Piece → ℕ × ℕ → List Code
codes_left bytes piece at = filter (is_in_piece piece) (codes_after bytes at)

-- values and marks, longer by those of the codes of a piece from a place to another
pub record IsCopied (bytes : List ℕ) (piece : Piece) (s t : Spot) (values : List ℕ) (firsts : List Bool) (more_values : List ℕ) (more_firsts : List Bool) : Type 0 where
  pub codes : List Code
  pub left : codes_left bytes piece (spot_place s) ≡ codes ++ codes_left bytes piece (spot_place t)
  pub longer : IsLonger values firsts more_values more_firsts codes
  pub stands : IsSpot bytes t
  pub started : is_spot_before t piece.start ≡ false
  pub later : 4 * s.index + s.vs + 1 ≤ 4 * t.index + t.vs

-- the codes of a piece from a place to another are the bytes there, which are above 13
pub record IsPlainRun (bytes : List ℕ) (piece : Piece) (s t : Spot) : Type 0 where
  pub codes : List Code
  pub left : codes_left bytes piece (spot_place s) ≡ codes ++ codes_left bytes piece (spot_place t)
  pub values : values_of codes ≡ slice_range bytes s.index t.index
  pub firsts : firsts_of codes ≡ replicate (t.index - s.index) true
  pub above : list_all (λ c. nat_lt 13 c.value) codes ≡ true
  pub stands : IsSpot bytes t
  pub started : is_spot_before t piece.start ≡ false
  pub low : s.index ≤ t.index
  pub high : t.index ≤ length bytes
