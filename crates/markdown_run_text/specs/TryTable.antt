-- Tables of what is tried where: lines, each of some codes. What else is said of the codes follows from the lines.
use Rattle.std.specs.Prelude.{ℕ, ◌==◌, if◌then◌else◌, List, [], ◌∷◌, ◌++◌, Option, Some, None}
use Rattle.std.specs.List.{list_any}

abbrev pub TriesTable : Type 0 → Type 0
TriesTable A = List (List ℕ × A)

-- the codes that have a line
abbrev pub codes_in : {A : Type 0} → TriesTable A → List ℕ
codes_in [] = []
codes_in (row ∷ rows) = row.0 ++ codes_in rows

-- what the line of a code says
abbrev pub said_at : {A : Type 0} → TriesTable A → ℕ → Option A
said_at [] v = None
said_at (row ∷ rows) v = if list_any (λ n. v == n) row.0 then Some row.1 else said_at rows v
