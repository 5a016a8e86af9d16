-- No event of a content stands before an earlier one.
use Rattle.std.specs.Prelude.{List, [], ◌∷◌, IsTrue}
use Rattle.std.specs.List.{All}
use Rattle.markdown_content.specs.Codes.{is_at_or_after, place_of}
use Rattle.markdown_content.specs.Content.{IsContent}
use Rattle.markdown_event.specs.declared.event.Event.{Event}
use Rattle.markdown_content.specs.declared.parser.Piece.{Piece}
use Rattle.markdown_model.specs.InlineTree.{text_events, string_events}
use Rattle.markdown_model.specs.Setting.{Setting}

-- each event stands at the place of each event before it, or behind that
abbrev pub NeverGoBack : List Event → Type 0
NeverGoBack [] = Unit {0}
NeverGoBack (e ∷ es) = All (λ f. IsTrue (is_at_or_after (place_of e.point) (place_of f.point))) es × NeverGoBack es

-- so it is with the events of each content, read as text and read as a string. An Enter and Exit around nothing, as of an empty label's text, are among them:
-- they stand behind all codes of the leaves before, and not behind those of the leaves after.
abbrev pub EventsNeverGoBack : Type 0
EventsNeverGoBack =
    (s : Setting) (pieces : List Piece) → IsContent s.bytes pieces
    → NeverGoBack (text_events s pieces) × NeverGoBack (string_events s pieces)
