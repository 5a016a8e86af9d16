-- A content of a prepared document, as contracts see it.
use Rattle.std.specs.Prelude.{List}
use Rattle.markdown_content.specs.declared.parser.ParseState.{ParseState}
use Rattle.markdown_content.specs.declared.parser.Piece.{Piece}

-- what the document was made of, and the pieces
pub record ContentOf : Type 0 where
  pub parse_state : ParseState
  pub pieces : List Piece
