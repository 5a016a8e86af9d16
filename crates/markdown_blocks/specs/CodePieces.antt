-- The piece of a document that has given codes.
use Rattle.std.specs.Prelude.{List, ◌∷◌}
use Rattle.markdown_content.specs.Codes.{Code, place_of, stop_of}
use Rattle.markdown_content.specs.declared.parser.Piece.{Piece}
use Rattle.markdown_event.specs.declared.event.Point.{Point}

-- codes that begin at a place
abbrev pub piece_at : Point → List Code → Piece
piece_at p cs = record { start = place_of p; end = place_of (stop_of p cs) }

-- some codes, from where the first begins to where the last ends
abbrev pub piece_of_codes : Code → List Code → Piece
piece_of_codes c cs = piece_at c.start (c ∷ cs)
