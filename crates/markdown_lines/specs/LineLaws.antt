-- The law on pieces of lines.
use Rattle.std.specs.Prelude.{ℕ, ◌≤◌, List, length, IsUtf8}
use Rattle.markdown_content.specs.Content.{IsTextContent, document_limit}
use Rattle.markdown_lines.specs.PiecesOfLines.{AreLines, pieces_of_lines}

-- in UTF-8 that is no longer than a document may be, they are a text
abbrev pub LinesAreAText : Type 0
LinesAreAText = (bytes starts : List ℕ) → IsUtf8 bytes → length bytes ≤ document_limit → AreLines bytes starts → IsTextContent bytes (pieces_of_lines bytes starts)
