-- The laws on the leaves of inline trees, and on the innermost events.
use Rattle.std.specs.Prelude.{◌≡◌, ℕ, true, not, List, [], ◌∷◌, map, filter, IsTrue}
use Rattle.std.specs.List.{All}
use Rattle.markdown_content.specs.Codes.{is_at_or_after, place_of}
use Rattle.markdown_content.specs.Content.{IsContent, content_of}
use Rattle.markdown_event.specs.declared.event.Event.{Event}
use Rattle.markdown_content.specs.declared.parser.Piece.{Piece}
use Rattle.markdown_innermost.specs.InnermostEvents.{HasLeaves, IsSpanInOrder, Span, covered, innermost, lent}
use Rattle.markdown_passes.specs.TrimmedData.{between}
use Rattle.markdown_model.specs.CodeTests.{is_empty}
use Rattle.markdown_model.specs.InlineTree.{text_tree, string_tree, text_events, string_events}
use Rattle.markdown_model.specs.Setting.{Setting}

-- each leaf of the inline tree of a content is codes of the document that follow one another, and a group around nothing stands at one
-- place of it, read as text and read as a string
abbrev pub LeavesAreStretches : Type 0
LeavesAreStretches =
    (s : Setting) (pieces : List Piece) → IsContent s.bytes pieces
    → HasLeaves s.bytes (text_tree s (content_of s.bytes pieces)) × HasLeaves s.bytes (string_tree s (content_of s.bytes pieces))

-- those that have a code
abbrev pub filled : List ℕ → List Span → List Span
filled bytes ss = filter (λ s. not (is_empty (between bytes s.start s.end))) ss

-- each later one begins where one before has ended, or after it
abbrev pub FollowOn : List Span → Type 0
FollowOn [] = Unit {0}
FollowOn (s ∷ ss) = All (λ t. IsTrue (is_at_or_after (place_of s.end) (place_of t.start))) ss × FollowOn ss

-- The innermost of these events begin and end at places of the document, and the codes from where each begins to where it ends, one after
-- another, are those of the content. Those with a code follow one another, and one without begins where it ends.
pub record GivesContent (bytes : List ℕ) (pieces : List Piece) (es : List Event) : Type 0 where
  pub places : All (IsSpanInOrder bytes) (innermost es)
  pub order : FollowOn (filled bytes (innermost es))
  pub empty : All (λ s. is_empty (between bytes s.start s.end) ≡ true → s.start ≡ s.end) (innermost es)
  pub leaves : covered bytes (map (lent bytes) (innermost es)) ≡ content_of bytes pieces

-- so it is with the events of each content, read as text and read as a string
abbrev pub EventsGiveContent : Type 0
EventsGiveContent =
    (s : Setting) (pieces : List Piece) → IsContent s.bytes pieces
    → GivesContent s.bytes pieces (text_events s pieces) × GivesContent s.bytes pieces (string_events s pieces)
