-- Pieces in front of others, the last of which may meet the first of these.
use Rattle.std.specs.Prelude.{if◌then◌else◌, List, Option, Some, None}
use Rattle.markdown_event.specs.declared.event.Event.{Event}
use Rattle.markdown_content.specs.declared.parser.Piece.{Piece}
use Rattle.markdown_innermost.specs.InnermostEvents.{has_nothing_inside, span_of}
use Rattle.markdown_model_laws.specs.LeafPieces.{meets, onto_pieces, piece_of}

abbrev pub with_last : Option Piece → List Piece → List Piece
with_last None more = more
with_last (Some last) more = onto_pieces last more

-- nothing where it ends where it begins
abbrev pub in_front : Piece → List Piece → List Piece
in_front p more = if meets p p then more else onto_pieces p more

-- nothing where the two are no innermost event
abbrev pub with_leaf : Event → Event → List Piece → List Piece
with_leaf e x more = if has_nothing_inside e.kind x.kind then in_front (piece_of (span_of e x)) more else more
