-- The pieces of the document that leaves of a content are: a content again.
use Rattle.std.specs.Prelude.{ℕ, ◌&&◌, ◌==◌, Bool, if◌then◌else◌, List, [], ◌∷◌, map, slice_range}
use Rattle.markdown_content.specs.Codes.{place_of}
use Rattle.markdown_content.specs.Content.{IsContent}
use Rattle.markdown_event.specs.declared.event.Event.{Event}
use Rattle.markdown_content.specs.declared.parser.Piece.{Piece}
use Rattle.markdown_model.specs.InlineTree.{text_events, string_events}
use Rattle.markdown_model.specs.Setting.{Setting}
use Rattle.markdown_innermost.specs.InnermostEvents.{Span, innermost}

-- the second begins where the first ends
abbrev pub meets : Piece → Piece → Bool
meets p q = p.end.0 == q.start.0 && p.end.1 == q.start.1

-- a piece in front of others: one with the first of these, where the two meet
abbrev pub onto_pieces : Piece → List Piece → List Piece
onto_pieces p [] = p ∷ []
onto_pieces p (q ∷ qs) = if meets p q then record { start = p.start; end = q.end } ∷ qs else p ∷ q ∷ qs

-- without those that end where they begin, and those that meet as one
abbrev pub joined_pieces : List Piece → List Piece
joined_pieces [] = []
joined_pieces (p ∷ ps) = if meets p p then joined_pieces ps else onto_pieces p (joined_pieces ps)

-- from the Enter of an innermost event to its Exit
abbrev pub piece_of : Span → Piece
piece_of s = record { start = place_of s.start; end = place_of s.end }

-- the pieces that the innermost of these events are
abbrev pub leaf_pieces : List Event → List Piece
leaf_pieces es = joined_pieces (map piece_of (innermost es))

-- those of any of these events that follow one another, as the events of a node do, are a content
abbrev pub AreContents : List ℕ → List Event → Type 0
AreContents bytes es = (from to : ℕ) → IsContent bytes (leaf_pieces (slice_range es from to))

-- so it is with the events of each content, read as text and read as a string. A label, a title or a destination is read as a string of such pieces.
abbrev pub LeavesAreContents : Type 0
LeavesAreContents =
    (s : Setting) (pieces : List Piece) → IsContent s.bytes pieces
    → AreContents s.bytes (text_events s pieces) × AreContents s.bytes (string_events s pieces)
