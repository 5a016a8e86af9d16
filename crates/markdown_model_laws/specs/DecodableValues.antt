-- What is lent for the values of character references (CommonMark 2.5) is what is decoded.
use Rattle.std.specs.Prelude.{◌≡◌, ◌≢◌, ℕ, List, [], ◌∷◌, map, IsUtf8}
use Rattle.std.specs.Str.{byte}
use Rattle.markdown_content.specs.Content.{IsContent}
use Rattle.markdown_event.specs.declared.event.Event.{Event}
use Rattle.markdown_event.specs.declared.event.Name.{Name}
use Rattle.markdown_event.specs.declared.event.Name.TheVariants as N
use Rattle.markdown_content.specs.declared.parser.Piece.{Piece}
use Rattle.markdown_util.specs.Reference.{IsReferenceMarker, IsNumber, radix_of}
use Rattle.markdown_model.specs.InlineTree.{text_events, string_events}
use Rattle.markdown_model.specs.Setting.{Setting}
use Rattle.markdown_innermost.specs.InnermostEvents.{Lent, innermost, lent}

-- a text that `decode` takes with this marker
pub record IsDecodable (marker : ℕ) (value : List ℕ) : Type 0 where
  pub known : IsReferenceMarker marker
  pub text : IsUtf8 value
  pub number : marker ≢ byte "&" → IsNumber (radix_of marker) value

-- the marker of a reference, by the leaf right before its value
abbrev pub marker_of : Name → ℕ
marker_of N.CharacterReferenceMarkerNumeric = byte "#"
marker_of N.CharacterReferenceMarkerHexadecimal = byte "x"
marker_of _ = byte "&"

-- each value of a reference is decodable, with the marker that the leaf right before it tells; `before` stands before the first
abbrev pub HaveValues : Name → List Lent → Type 0
HaveValues before [] = Unit {0}
HaveValues before (l ∷ ls) = (l.name ≡ N.CharacterReferenceValue → IsDecodable (marker_of before) l.bytes) × HaveValues l.name ls

abbrev pub EventsHaveValues : List ℕ → List Event → Type 0
EventsHaveValues bytes es = (before : Name) → HaveValues before (map (lent bytes) (innermost es))

-- so it is in what is lent for the events of each content, read as text and read as a string
abbrev pub ValuesAreDecodable : Type 0
ValuesAreDecodable =
    (s : Setting) (pieces : List Piece) → IsContent s.bytes pieces
    → EventsHaveValues s.bytes (text_events s pieces) × EventsHaveValues s.bytes (string_events s pieces)
