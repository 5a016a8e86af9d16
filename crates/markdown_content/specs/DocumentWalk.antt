-- Walks over the codes of a document.
use Rattle.std.specs.Prelude.{◌≡◌, ℕ, not, List, take, filter, slice_get, Option, option_map}
use Rattle.markdown_event.specs.declared.event.Point.{Point}
use Rattle.markdown_content.specs.Codes.{Code, codes_of, stop_of, is_code_before, place_of, point_at}

-- the codes from a place on
abbrev pub codes_after : List ℕ → ℕ × ℕ → List Code
codes_after bytes at = filter (λ c. not (is_code_before at c)) (codes_of bytes)

-- a place of the document, with the line and the column that it has there
pub record IsPoint (bytes : List ℕ) (p : Point) : Type 0 where
  pub here : point_at bytes (place_of p) ≡ p

-- the place after the code that begins here; where the document ends, the place itself
unfoldable pub next_point : List ℕ → Point → Point
next_point bytes p = stop_of p (take 1 (codes_after bytes (place_of p)))

-- the value of the code that begins here; none where the document ends
unfoldable pub value_from : List ℕ → Point → Option ℕ
value_from bytes p = option_map (λ (c : Code). c.value) (slice_get (codes_after bytes (place_of p)) 0)
