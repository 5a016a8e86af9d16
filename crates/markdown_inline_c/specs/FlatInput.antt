-- What a caller in C hands in.
use Rattle.std.specs.Prelude.{◌≡◌, ℕ, ◌≤◌, Bool, false, List, [], map, length, slice_range, IsUtf8}
use Rattle.std.specs.List.{All}
use Rattle.markdown_content.specs.CommonMark.{rules_of}
use Rattle.markdown_content.specs.Content.{IsContent, IsTextContent}
use Rattle.markdown_content.specs.DefaultOptions.{AreKnown, has_option, options_of}
use Rattle.markdown_content.specs.declared.configuration.ParseOptions.{ParseOptions}
use Rattle.markdown_content.specs.declared.parser.Piece.{Piece}
use Rattle.markdown_model.specs.Setting.{Setting, references_of}
use Rattle.markdown_util.specs.Identifier.{identifier_by}
use Rattle.markdown_inline_c.specs.declared.check.Pieces.{Pieces}
use Rattle.markdown_inline_c.specs.declared.flat.FlatPiece.{FlatPiece}
use Rattle.markdown_inline_c.specs.declared.flat.Input.{Input}
use Rattle.markdown_inline_c.specs.declared.flat.Range.{Range}

abbrev pub piece_of : FlatPiece → Piece
piece_of p = record { start = (p.start, p.start_vs); end = (p.end, p.end_vs) }

abbrev pub pieces_of : List FlatPiece → List Piece
pieces_of pieces = map piece_of pieces

abbrev pub pieces_listed : Pieces → List Piece
pieces_listed (Pieces.One pieces) = pieces
pieces_listed (Pieces.Many pieces) = pieces.items

-- Labels of definitions, each by where it stands among bytes.

abbrev pub range_bytes : List ℕ → Range → List ℕ
range_bytes labels r = slice_range labels r.start r.end

-- the range stands among the bytes, and holds UTF-8
pub record IsLabelRange (labels : List ℕ) (r : Range) : Type 0 where
  pub in_order : r.start ≤ r.end
  pub within : r.end ≤ length labels
  pub is_utf_8 : IsUtf8 (range_bytes labels r)

-- whether NUL in a label is read as U+FFFD, by these options
abbrev pub replaces_nul : ParseOptions → Bool
replaces_nul o = (rules_of o).nul_is_replaced

abbrev pub identifiers : Bool → List ℕ → List Range → List (List ℕ)
identifiers replaced labels ranges = map (λ r. identifier_by replaced (range_bytes labels r)) ranges

abbrev pub AreLabels : Input → Type 0
AreLabels i = All (IsLabelRange i.labels.now) i.definitions.now × All (IsLabelRange i.labels.now) i.footnotes.now

-- What a run is given.

abbrev pub string_setting : Input → Setting
string_setting i = record {
  bytes = i.bytes.now;
  options = options_of i.options;
  references = references_of (options_of i.options);
  definitions = [];
  footnotes = [];
  first_of_item = false;
  content = [];
}

abbrev pub text_setting : Input → Setting
text_setting i = record (string_setting i) {
  definitions = identifiers (replaces_nul (options_of i.options)) i.labels.now i.definitions.now;
  footnotes = identifiers (replaces_nul (options_of i.options)) i.labels.now i.footnotes.now;
  first_of_item = has_option i.options 0x10_0000;
}

-- each bit is one of an option, and the reserved word is 0
abbrev pub AreInputOptions : Input → Type 0
AreInputOptions i = AreKnown i.options × (i.reserved ≡ 0)

-- an input that can be read as a string
pub record IsStringInput (i : Input) : Type 0 where
  pub options : AreInputOptions i
  pub pieces : IsContent i.bytes.now (pieces_of i.pieces.now)

-- an input that can be read as a text
pub record IsTextInput (i : Input) : Type 0 where
  pub options : AreInputOptions i
  pub pieces : IsTextContent i.bytes.now (pieces_of i.pieces.now)
  pub labels : AreLabels i
