-- What is lent for the events of a content is text.
use Rattle.std.specs.Prelude.{ℕ, List, map, IsUtf8}
use Rattle.std.specs.List.{All}
use Rattle.markdown_content.specs.Content.{IsContent}
use Rattle.markdown_event.specs.declared.event.Event.{Event}
use Rattle.markdown_content.specs.declared.parser.Piece.{Piece}
use Rattle.markdown_model.specs.InlineTree.{text_events, string_events}
use Rattle.markdown_model.specs.Setting.{Setting}
use Rattle.markdown_innermost.specs.InnermostEvents.{innermost, lent}

-- what is lent for each of the innermost events is UTF-8
abbrev pub LendTexts : List ℕ → List Event → Type 0
LendTexts bytes es = All (λ l. IsUtf8 l.bytes) (map (lent bytes) (innermost es))

-- so it is for the events of each content, read as text and read as a string
abbrev pub LeavesAreTexts : Type 0
LeavesAreTexts =
    (s : Setting) (pieces : List Piece) → IsContent s.bytes pieces
    → LendTexts s.bytes (text_events s pieces) × LendTexts s.bytes (string_events s pieces)
