-- Codes that mean themselves: up to a line ending, one of some bytes, or the end.
use Rattle.std.specs.Prelude.{ℕ, Bool, true, false, not, ◌||◌, ◌==◌, List, [], ◌∷◌, Option, Some, None}
use Rattle.std.specs.List.{list_any}
use Rattle.markdown_content.specs.Codes.{Code, line_feed}
use Rattle.markdown_content.specs.Place.{Place, ahead_at, moved}

-- a line ending, or one of these bytes
abbrev pub stops : List ℕ → ℕ → Bool
stops markers v = v == line_feed || list_any (λ n. v == n) markers

-- a code that stops nothing
abbrev pub is_free : List ℕ → Option ℕ → Bool
is_free markers None = false
is_free markers (Some v) = not (stops markers v)

-- the codes before the first that stops
abbrev pub stretch : List ℕ → List Code → List Code
stretch markers [] = []
stretch markers (c ∷ cs) = elim (stops markers c.value) [ true ↦ [] | false ↦ c ∷ stretch markers cs ]

-- past as many codes
abbrev pub walked : List Code → Place → Place
walked [] p = p
walked (c ∷ cs) p = walked cs (moved p)

-- past them
unfoldable pub past_stretch : List ℕ → Place → Place
past_stretch markers p = walked (stretch markers (ahead_at p)) p
