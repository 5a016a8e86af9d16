-- Pieces of lines as a caller in C gets them.
use Rattle.std.specs.Prelude.{◌≡◌, ◌⊎◌, ℕ, ◌==◌, if◌then◌else◌, List, map, None}
use Rattle.markdown_content.specs.declared.parser.Piece.{Piece}
use Rattle.markdown_lines.specs.PiecesOfLines.{AreLines, AreLinesRefused, pieces_of_lines}
use Rattle.markdown_lines.specs.declared.lines.LineFault.{LineFault}
use Rattle.markdown_inline_c.specs.Answers.{IsHandedOut}
use Rattle.markdown_inline_c.specs.FlatEvents.{number_or_max}
use Rattle.markdown_inline_c.specs.Refusals.{blames, blames_none}
use Rattle.markdown_inline_c.specs.Statuses.{fault_status}
use Rattle.markdown_inline_c.specs.declared.fault.Fault.{Fault}
use Rattle.markdown_inline_c.specs.declared.flat.FlatPiece.{FlatPiece}
use Rattle.markdown_inline_c.specs.declared.outcome.Outcome.{Outcome}
use Rattle.markdown_inline_c.specs.declared.refusal.Refusal.{Refusal}

abbrev pub flat_piece : Piece → FlatPiece
flat_piece p = record { start = p.start.0; start_vs = p.start.1; end = p.end.0; end_vs = p.end.1 }

abbrev pub line_pieces : List ℕ → List ℕ → List FlatPiece
line_pieces bytes starts = map flat_piece (pieces_of_lines bytes starts)

-- the refusal of a start, by its number: it makes no content with the one before, or its line is blank
abbrev pub start_refusal : LineFault → Refusal
start_refusal (LineFault.Misplaced number) = blames Fault.NoContent number
start_refusal (LineFault.Blank number) = blames Fault.BlankLine number

-- the first start that is refused; memory may be refused at any time
pub record IsFirstStart (bytes starts : List ℕ) (r : Refusal) : Type 0 where
  pub fault : LineFault
  pub refused : AreLinesRefused bytes starts fault
  pub refusal_is : r ≡ start_refusal fault

abbrev pub AreStartsRefused : List ℕ → List ℕ → Refusal → Type 0
AreStartsRefused bytes starts r = (r ≡ blames_none Fault.Memory) ⊎ IsFirstStart bytes starts r

-- the starts are those of lines, whose pieces are handed out and counted, and as many are done as are written
pub record AreLinesWritten (bytes starts : List ℕ) (old new : List FlatPiece) (o : Outcome) (status : ℕ) : Type 0 where
  pub lines : AreLines bytes starts
  pub handed_out : IsHandedOut (line_pieces bytes starts) old new o.count status
  pub done : o.done ≡ (if status == 0 then o.count else 0)
  pub blames_nothing : o.blamed ≡ number_or_max None

-- a start is refused, and nothing is written
pub record AreLinesBlamed (bytes starts : List ℕ) (old new : List FlatPiece) (o : Outcome) (status : ℕ) : Type 0 where
  pub refusal : Refusal
  pub refused : AreStartsRefused bytes starts refusal
  pub status_is : status ≡ fault_status refusal.fault
  pub outcome : o ≡ record { done = 0; count = 0; blamed = number_or_max refusal.at }
  pub array : new ≡ old

abbrev pub AreLinePieces : (bytes starts : List ℕ) → (old new : List FlatPiece) → Outcome → ℕ → Type 0
AreLinePieces bytes starts old new o status = AreLinesWritten bytes starts old new o status ⊎ AreLinesBlamed bytes starts old new o status
