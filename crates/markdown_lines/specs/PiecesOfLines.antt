-- The pieces of a paragraph, by where its lines begin (CommonMark 4.8).
use Rattle.std.specs.Prelude.{◌≡◌, ℕ, ◌+◌, ◌-◌, ◌≤◌, Bool, false, not, ◌||◌, ◌==◌, IsTrue, List, [], ◌∷◌, ◌++◌, length, take, drop, Option, None, Some, slice_get}
use Rattle.std.specs.List.{position_or_len, suffix_len}
use Rattle.std.specs.Str.{IsCharBoundary}
use Rattle.markdown_content.specs.Codes.{is_line_ending_byte, line_ending_len, space_value, tab_value}
use Rattle.markdown_content.specs.declared.parser.Piece.{Piece}
use Rattle.markdown_lines.specs.declared.lines.LineFault.{LineFault}

-- The start of a line is the byte at which the paragraph's part of the line begins: behind the markers of quotes and items. Blanks may stand there.

abbrev pub is_blank_byte : ℕ → Bool
is_blank_byte b = b == space_value || b == tab_value

-- the first byte at or behind an index that passes, or the end of the document
abbrev pub first_from : (ℕ → Bool) → List ℕ → ℕ → ℕ
first_from p bytes at = at + position_or_len p (drop at bytes)

-- the first byte that is no space or tab
abbrev pub first_ink : List ℕ → ℕ → ℕ
first_ink bytes at = first_from (λ b. not (is_blank_byte b)) bytes at

-- where the line has its ending (2.1), or the end of the document
abbrev pub line_stop : List ℕ → ℕ → ℕ
line_stop bytes at = first_from is_line_ending_byte bytes at

-- how many bytes the ending has that these begin with
abbrev pub ending_len : List ℕ → ℕ
ending_len [] = 0
ending_len (b ∷ rest) = line_ending_len b rest

-- just behind the line's ending, or the end of the document
abbrev pub line_end : List ℕ → ℕ → ℕ
line_end bytes at = line_stop bytes at + ending_len (drop (line_stop bytes at) bytes)

-- where the spaces and tabs begin that stand before the line's ending
abbrev pub ink_end : List ℕ → ℕ → ℕ
ink_end bytes at = line_stop bytes at - suffix_len is_blank_byte (take (line_stop bytes at) bytes)

-- from a byte to another
abbrev pub piece_between : ℕ → ℕ → Piece
piece_between start end = record { start = (start, 0); end = (end, 0) }

-- a line of a paragraph with its ending, but without the blanks at its front
abbrev pub line_piece : List ℕ → ℕ → Piece
line_piece bytes at = piece_between (first_ink bytes at) (line_end bytes at)

-- the last line, without the whitespace at its end
abbrev pub last_piece : List ℕ → ℕ → Piece
last_piece bytes at = piece_between (first_ink bytes at) (ink_end bytes at)

abbrev pub pieces_of_lines : List ℕ → List ℕ → List Piece
pieces_of_lines bytes [] = []
pieces_of_lines bytes (at ∷ rest) =
    elim rest [
      | [] ↦ last_piece bytes at ∷ []
      | next ∷ more ↦ line_piece bytes at ∷ pieces_of_lines bytes rest
    ]

-- Which starts are those of lines.

-- it stands on the line behind that of another: not before the end of that one, and not behind the ending of the line there
abbrev pub IsOnNextLine : List ℕ → ℕ → ℕ → Type 0
IsOnNextLine bytes at next = (line_end bytes at ≤ next) × (next ≤ line_stop bytes (line_end bytes at))

-- a line may begin here, behind the one before if there is one
abbrev pub MayBegin : List ℕ → Option ℕ → ℕ → Type 0
MayBegin bytes None at = IsCharBoundary bytes at
MayBegin bytes (Some before) at = IsCharBoundary bytes at × IsOnNextLine bytes before at

-- whether the line has more than spaces and tabs behind its start
abbrev pub is_filled : List ℕ → ℕ → Bool
is_filled bytes at =
    elim (slice_get bytes (first_ink bytes at)) [
      | None ↦ false
      | Some b ↦ not (is_line_ending_byte b)
    ]

-- lines that are not blank begin here, each one on the line behind the one before
abbrev pub AreLinesBehind : List ℕ → Option ℕ → List ℕ → Type 0
AreLinesBehind bytes before [] = Unit {0}
AreLinesBehind bytes before (at ∷ rest) = (MayBegin bytes before at × IsTrue (is_filled bytes at)) × AreLinesBehind bytes (Some at) rest

abbrev pub AreLines : List ℕ → List ℕ → Type 0
AreLines bytes starts = AreLinesBehind bytes None starts

-- the last of these starts, or the one before them
abbrev pub last_behind : Option ℕ → List ℕ → Option ℕ
last_behind before [] = before
last_behind before (at ∷ rest) = last_behind (Some at) rest

-- a start that is refused behind others, and its number
abbrev pub IsStartFault : List ℕ → Option ℕ → ℕ → ℕ → LineFault → Type 0
IsStartFault bytes before at number (LineFault.Misplaced n) = (n ≡ number) × (MayBegin bytes before at → ⊥)
IsStartFault bytes before at number (LineFault.Blank n) = (n ≡ number) × (MayBegin bytes before at × (is_filled bytes at ≡ false))

-- the first start that is refused
pub record AreLinesRefused (bytes starts : List ℕ) (fault : LineFault) : Type 0 where
  pub before : List ℕ
  pub at : ℕ
  pub after : List ℕ
  pub parts : starts ≡ before ++ at ∷ after
  pub hold : AreLines bytes before
  pub refused : IsStartFault bytes (last_behind None before) at (length before) fault
