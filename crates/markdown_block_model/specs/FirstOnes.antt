-- Of several definitions with one identifier the first counts (CommonMark 4.7, and footnote definitions likewise). `key` is the identifier of a definition.
use Rattle.std.specs.Prelude.{ℕ, Bool, not, List, [], ◌∷◌, filter}
use Rattle.std.specs.Str.{bytes_eq}

abbrev pub has_key : {A : Type 0} → (A → List ℕ) → List ℕ → A → Bool
has_key key name d = bytes_eq name (key d)

-- those that count
abbrev pub first_ones : {A : Type 0} → (A → List ℕ) → List A → List A
first_ones key [] = []
first_ones key (d ∷ ds) = d ∷ filter (λ other. not (has_key key (key d) other)) (first_ones key ds)
