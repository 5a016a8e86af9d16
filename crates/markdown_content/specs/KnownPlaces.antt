-- A document with some of its places.
use Rattle.std.specs.Prelude.{◌≡◌, ℕ, ◌*◌, ◌<◌, ◌≤◌, List, [], ◌∷◌, length, get_or, Option, MatchOption, IsTrue, IsUtf8}
use Rattle.markdown_event.specs.declared.event.Point.{Point}
use Rattle.markdown_content.specs.declared.parser.Piece.{Piece}
use Rattle.markdown_content.specs.Codes.{place_of, is_at_or_after}
use Rattle.markdown_content.specs.Content.{document_limit, are_pieces}
use Rattle.markdown_content.specs.PlaceInDocument.{first_point}
use Rattle.markdown_content.specs.DocumentWalk.{IsPoint}

-- what contents may be read in
pub record IsDocument (bytes : List ℕ) : Type 0 where
  pub is_text : IsUtf8 bytes
  pub fits : length bytes ≤ document_limit

-- how many bytes apart known places are
abbrev pub mark_stride : ℕ
mark_stride = 128

-- a place of the document, with its line and its column, that is not behind a byte
pub record IsMark (bytes : List ℕ) (index : ℕ) (p : Point) : Type 0 where
  pub is_point : IsPoint bytes p
  pub forward : IsTrue (is_at_or_after (place_of p) (index, 0))

-- known places: the one of each number is not behind as many strides, and there is one
pub record AreMarks (bytes : List ℕ) (marks : List Point) : Type 0 where
  pub some : 0 < length marks
  pub each : (k : ℕ) (d : Point) → k < length marks → IsMark bytes (k * mark_stride) (get_or marks k d)

-- where the first piece starts; where there is none, a place that is given
abbrev pub first_place : ℕ × ℕ → List Piece → ℕ × ℕ
first_place at [] = at
first_place at (piece ∷ rest) = piece.start

-- where the first code of the pieces begins, if that is a place of the document
abbrev pub IsFirst : List ℕ → List Piece → Option Point → Type 0
IsFirst bytes pieces found =
    MatchOption found ((IsTrue (are_pieces bytes pieces)) → ⊥) (λ p. IsPoint bytes p × (p ≡ first_point bytes pieces) × (place_of p ≡ first_place (place_of p) pieces))
