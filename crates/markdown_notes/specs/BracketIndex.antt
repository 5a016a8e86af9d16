-- Opening brackets: how many a text has, and where they stand in a part of a document.
use Rattle.std.specs.Prelude.{ℕ, suc, Bool, ◌==◌, ◌&&◌, nat_le, nat_lt, if◌then◌else◌, List, [], ◌∷◌, slice_range, Option, Some, None}
use Rattle.std.specs.List.{count_by, list_any}
use Rattle.std.specs.Str.{byte}

-- how many opening brackets these bytes have
abbrev pub brackets_of : List ℕ → ℕ
brackets_of bs = count_by (λ b. b == byte "[") bs

-- one of these texts has so many of them
abbrev pub has_brackets : ℕ → List (List ℕ) → Bool
has_brackets n texts = list_any (λ text. brackets_of text == n) texts

-- where they stand among these bytes, the first of which has this index
abbrev pub places_from : ℕ → List ℕ → List ℕ
places_from at [] = []
places_from at (b ∷ bs) = if b == byte "[" then at ∷ places_from (suc at) bs else places_from (suc at) bs

-- where they stand from an index of a document up to another
pub record BracketPlaces : Type 0 where
  pub start : ℕ
  pub end : ℕ
  pub places : List ℕ

abbrev pub brackets_between : List ℕ → ℕ → ℕ → BracketPlaces
brackets_between bytes start end = record { start = start; end = end; places = places_from start (slice_range bytes start end) }

-- where they stand in no part of a document
abbrev pub no_brackets : BracketPlaces
no_brackets = record { start = 0; end = 0; places = [] }

-- how many stand from an index up to another, where all that stands between is known
abbrev pub counted : BracketPlaces → ℕ → ℕ → Option ℕ
counted b from to =
    if nat_le b.start from && (nat_le from to && nat_le to b.end) then Some (count_by (λ p. nat_le from p && nat_lt p to) b.places) else None
