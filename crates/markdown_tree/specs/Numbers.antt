-- Definitions by their identifiers, in order (CommonMark 4.7: if several definitions match, the first one counts).
use Rattle.std.specs.Prelude.{ℕ, List, [], ◌∷◌, ◌++◌, length, Option, None, Some}
use Rattle.std.specs.List.{position}
use Rattle.std.specs.Str.{bytes_eq}
use Rattle.markdown_tree.specs.declared.definitions.Added.{Added}

-- the number of the first with this identifier
abbrev pub number_of : List ℕ → List (List ℕ) → Option ℕ
number_of identifier identifiers = position (bytes_eq identifier) identifiers

-- these and one more, if it is none of them
abbrev pub with_identifier : List ℕ → List (List ℕ) → List (List ℕ)
with_identifier identifier identifiers = elim (number_of identifier identifiers) [ None ↦ identifiers ++ identifier ∷ [] | Some n ↦ identifiers ]

-- what one more is beside these
abbrev pub added_to : List ℕ → List (List ℕ) → Added
added_to identifier identifiers = elim (number_of identifier identifiers) [ None ↦ Added.First (length identifiers) | Some n ↦ Added.Earlier n ]
