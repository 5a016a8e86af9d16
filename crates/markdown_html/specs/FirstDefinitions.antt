-- The first definition with an identifier, by where it stands (CommonMark 4.7).
use Rattle.std.specs.Prelude.{ℕ, suc, ◌≡◌, if◌then◌else◌, List, [], ◌∷◌, Option, None, Some}
use Rattle.std.specs.List.{slice_get}
use Rattle.std.specs.Option.{option_map}
use Rattle.std.specs.Str.{bytes_eq}
use Rattle.markdown_html_model.specs.Html.{Defined, Target, nowhere}

abbrev pub first_with : List ℕ → List Defined → Option ℕ
first_with identifier [] = None
first_with identifier (d ∷ ds) = if bytes_eq d.identifier identifier then Some 0 else option_map suc (first_with identifier ds)

-- one of these has the identifier
abbrev pub IsDefined : List ℕ → List Defined → Type 0
IsDefined identifier ds = (n : ℕ) × (first_with identifier ds ≡ Some n)

abbrev pub target_with : Defined → Target
target_with d = record { destination = d.destination; title = d.title }

-- the target of the definition that stands somewhere
abbrev pub target_there : Option Defined → Target
target_there None = nowhere
target_there (Some d) = target_with d

abbrev pub target_at : List Defined → Option ℕ → Target
target_at ds None = nowhere
target_at ds (Some n) = target_there (slice_get ds n)
