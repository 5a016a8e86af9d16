-- The lines of a document, each from a place to another.
use Rattle.std.specs.Prelude.{◌≡◌, ℕ, ◌<◌, List, [], ◌∷◌, ◌++◌}
use Rattle.markdown_event.specs.declared.event.Point.{Point}
use Rattle.markdown_content.specs.Codes.{Code, stop_of, place_of}
use Rattle.markdown_content.specs.DocumentWalk.{codes_after, IsPoint}
use Rattle.markdown_model.specs.CodeTests.{values_of}
use Rattle.markdown_block_model.specs.LineRests.{lines_of}

abbrev pub first_line : List (List Code) → List Code
first_line [] = []
first_line (l ∷ ls) = l

-- the codes of the line that begins at a place
abbrev pub line_from : List ℕ → Point → List Code
line_from bytes p = first_line (lines_of (codes_after bytes (place_of p)))

-- the line that begins at the first place ends at the second
pub record IsLine (bytes : List ℕ) (p q : Point) : Type 0 where
  pub is_point : IsPoint bytes q
  pub lines : lines_of (codes_after bytes (place_of p)) ≡ line_from bytes p ∷ lines_of (codes_after bytes (place_of q))
  pub codes : codes_after bytes (place_of p) ≡ line_from bytes p ++ codes_after bytes (place_of q)
  pub stop : stop_of p (line_from bytes p) ≡ q
  pub forward : p.index < q.index

-- and has these values
abbrev pub IsLineOf : List ℕ → Point → Point → List ℕ → Type 0
IsLineOf bytes p q values = IsLine bytes p q × (values_of (line_from bytes p) ≡ values)
