-- The rest of a line, as contracts see it.
use Rattle.std.specs.Prelude.{◌≡◌, ℕ, ◌<◌, ◌≤◌, List, ◌++◌, take, drop, length, Bool, true, Some}
use Rattle.std.specs.List.{list_all}
use Rattle.markdown_event.specs.declared.event.Point.{Point}
use Rattle.markdown_content.specs.Codes.{Code, place_of}
use Rattle.markdown_content.specs.Content.{document_limit}
use Rattle.markdown_content.specs.DocumentWalk.{IsPoint, codes_after}
use Rattle.markdown_model.specs.CodeTests.{values_of}
use Rattle.markdown_block_line.specs.DocumentLines.{line_from}
use Rattle.markdown_block_line.specs.LineBlocks.{extensions_of}
use Rattle.markdown_block_line.specs.LineBreaks.{IsBreakLens}
use Rattle.markdown_block_model.specs.BlockStarts.{begun}
use Rattle.markdown_block_line.specs.LineStarts.{begun_of, StandsWhere}
use Rattle.markdown_block_line.specs.declared.begins.Begun.{Begun}
use Rattle.markdown_block_line.specs.declared.breaks.BreakLens.{BreakLens}
use Rattle.markdown_block_line.specs.declared.extensions.Extensions.{Extensions}
use Rattle.markdown_blocks.specs.declared.reader.Reader.{Reader}
use Rattle.markdown_blocks.specs.TextRows.{StandsBetween, is_outer, line_stop, HasPlacedTexts}

-- what is read beside CommonMark, the document, where the line begins, and the codes that are left
pub record LineRest : Type 0 where
  pub extensions : Extensions
  pub bytes : List ℕ
  pub start : Point
  pub codes : List Code

-- behind so many codes
abbrev pub behind : ℕ → LineRest → LineRest
behind k r = record { extensions = r.extensions; bytes = r.bytes; start = r.start; codes = drop k r.codes }

-- the codes of a line that begins at a place, and others after it, are those of the document from there on
pub record IsLineStart (bytes : List ℕ) (start : Point) (line : List Code) : Type 0 where
  pub rest : List Code
  pub codes : codes_after bytes (place_of start) ≡ line ++ rest

-- what the rest of a line keeps: the values of the whole line, and what is known of breaks in it
pub record IsRest (bytes : List ℕ) (start : Point) (values : List ℕ) (breaks : BreakLens) (at : ℕ) : Type 0 where
  pub fits : length bytes ≤ document_limit
  pub is_point : IsPoint bytes start
  pub filled : start.index < length bytes
  pub begins : IsLineStart bytes start (line_from bytes start)
  pub same : values_of (line_from bytes start) ≡ values
  pub breaks_are : IsBreakLens breaks values
  pub within : at ≤ length values
  pub between : StandsBetween bytes start
  pub outer : list_all is_outer (take at (line_from bytes start)) ≡ true

-- what the rest of a line was found to begin
pub record IsBegun (ext : Extensions) (cs : List Code) (b : Begun) : Type 0 where
  pub in_paragraph : Bool
  pub after_text : Bool
  pub is : begun (extensions_of ext) in_paragraph after_text cs ≡ Some (begun_of cs b)
  pub stands : StandsWhere cs b

-- what a reader has of texts before the line, and behind it
abbrev pub TextsBefore : LineRest → Reader → Type 0
TextsBefore l r = HasPlacedTexts l.bytes l.start r

abbrev pub TextsBehind : LineRest → Reader → Type 0
TextsBehind l r = HasPlacedTexts l.bytes (line_stop l.bytes l.start) r
