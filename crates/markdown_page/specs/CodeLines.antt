-- Lines of code and of HTML, as they are written.
use Rattle.std.specs.Prelude.{◌≡◌, ℕ, ◌<◌, Bool, false, not, ◌&&◌, ◌||◌, ◌==◌, nat_lt, if◌then◌else◌, List, ◌++◌, filter, length, map}
use Rattle.markdown_event.specs.declared.event.Point.{Point}
use Rattle.markdown_content.specs.Codes.{Code, codes_of, is_line_ending, place_of}
use Rattle.markdown_content.specs.Content.{piece_codes}
use Rattle.markdown_content.specs.DocumentWalk.{IsPoint}
use Rattle.markdown_content.specs.declared.parser.Piece.{Piece}
use Rattle.markdown_model.specs.CodeTests.{values_of}
use Rattle.markdown_model.specs.Grammar.{span}
use Rattle.markdown_html_model.specs.Escaped.{escaped, replaced}
use Rattle.markdown_block_definitions.specs.TextCopies.{codes_left}
use Rattle.markdown_page_model.specs.PageTexts.{text_of, is_later_column}

-- a text as raw HTML, or escaped
abbrev pub text_as : Bool → List ℕ → List ℕ
text_as raw text = if raw then replaced text else escaped text

-- the lines that these pieces are
abbrev pub lines_in : List ℕ → List Piece → List (List Code)
lines_in bytes pieces = map (piece_codes (codes_of bytes)) pieces

-- a line before its ending, and from it on
abbrev pub before_ending : List Code → List Code
before_ending cs = (span (λ c. not (is_line_ending c)) cs).0

abbrev pub from_ending : List Code → List Code
from_ending cs = (span (λ c. not (is_line_ending c)) cs).1

-- the codes without the later columns of tabs
abbrev pub kept : List Code → List Code
kept cs = filter (λ c. not (is_later_column c)) cs

-- a byte stands before a place
abbrev pub begins_before : ℕ → ℕ × ℕ → Bool
begins_before i at = nat_lt i at.0 || (i == at.0 && nat_lt 0 at.1)

-- a code, or the end of the document, begins at a byte
pub record BeginsAtByte (bytes : List ℕ) (i : ℕ) : Type 0 where
  pub point : Point
  pub is_point : IsPoint bytes point
  pub place : place_of point ≡ (i, 0)

-- what is written of the codes of a tab that a line begins in
pub record IsPastColumns (bytes : List ℕ) (piece : Piece) (raw : Bool) (at : ℕ × ℕ) (before after : List ℕ) (i : ℕ) : Type 0 where
  pub byte : BeginsAtByte bytes i
  pub started : i < length bytes → begins_before i piece.start ≡ false
  pub text : after ++ text_as raw (text_of (before_ending (codes_left bytes piece (i, 0)))) ≡ before ++ text_as raw (text_of (before_ending (codes_left bytes piece at)))
  pub ending : from_ending (codes_left bytes piece (i, 0)) ≡ from_ending (codes_left bytes piece at)

-- the text of some codes, of which some are read: if all are later columns of a tab so far, such may follow
abbrev pub text_behind : Bool → List Code → List ℕ
text_behind leading cs = if leading then text_of cs else values_of (kept cs)
