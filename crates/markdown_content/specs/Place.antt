-- A place in a content, as contracts see it.
use Rattle.std.specs.Prelude.{ℕ, zero, suc, ◌+◌, List, drop, slice_get, Option, Some, None, option_map}
use Rattle.markdown_event.specs.declared.event.Point.{Point}
use Rattle.markdown_content.specs.declared.parser.Piece.{Piece}
use Rattle.markdown_content.specs.Codes.{Code}
use Rattle.markdown_content.specs.Content.{content_of, content_end}

-- the codes of a content, how many of them are passed, and where the content ends
pub record Place : Type 0 where
  pub codes : List Code
  pub at : ℕ
  pub end : Point

-- at first none is passed
unfoldable pub start_of_content : List ℕ → List Piece → Place
start_of_content bytes pieces = record { codes = content_of bytes pieces; at = 0; end = content_end bytes pieces }

-- the codes that are not passed
unfoldable pub ahead_at : Place → List Code
ahead_at p = drop p.at p.codes

-- past the code at the place
unfoldable pub moved : Place → Place
moved p = record { codes = p.codes; at = p.at + 1; end = p.end }

-- the code after so many, and the last one of so many
abbrev pub code_after : List Code → ℕ → Option Code
code_after cs n = slice_get cs n

abbrev pub last_of : List Code → ℕ → Option Code
last_of cs zero = None
last_of cs (suc n) = slice_get cs n

abbrev pub value_of : Option Code → Option ℕ
value_of c = option_map (λ (d : Code). d.value) c

-- the value of the code at the place; none at the end
unfoldable pub code_at : Place → Option ℕ
code_at p = value_of (code_after p.codes p.at)

-- the value of the code before the place; none at the start
unfoldable pub code_before : Place → Option ℕ
code_before p = value_of (last_of p.codes p.at)

abbrev pub start_or : Option Code → Point → Point
start_or None p = p
start_or (Some c) p = c.start

abbrev pub stop_or : Option Code → Point → Point
stop_or None p = p
stop_or (Some c) p = c.stop

-- where an event that begins here stands: at the start of the code at the place, else at the end
unfoldable pub point_of : Place → Point
point_of p = start_or (code_after p.codes p.at) p.end

-- where an event that ends here stands: after the code before the place. So after a line ending it stands at
-- the start of the next line, before what is left out of that line
unfoldable pub exit_point : Place → Point
exit_point p = stop_or (last_of p.codes p.at) (start_or (code_after p.codes p.at) p.end)
