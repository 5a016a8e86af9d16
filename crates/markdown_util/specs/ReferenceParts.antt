-- The parts of a reference, for the helpers of `parse`.
use Rattle.std.specs.Prelude.{◌≡◌, ◌≢◌, ◌⊎◌, ℕ, List, ◌∷◌}
use Rattle.std.specs.Str.{byte}

-- no such byte begins the text
abbrev pub LacksFirst : ℕ → List ℕ → Type 0
LacksFirst b bs = (rest : List ℕ) → bs ≢ b ∷ rest

-- after `&` stand the marker of a name, of a decimal or of a hexadecimal number, and then these bytes
abbrev pub IsName : List ℕ → ℕ → List ℕ → Type 0
IsName after marker body = (marker ≡ byte "&") × (after ≡ body) × LacksFirst (byte "#") body

abbrev pub IsDecimal : List ℕ → ℕ → List ℕ → Type 0
IsDecimal after marker body = (marker ≡ byte "#") × (after ≡ byte "#" ∷ body) × LacksFirst (byte "x") body × LacksFirst (byte "X") body

abbrev pub IsHexadecimal : List ℕ → ℕ → List ℕ → Type 0
IsHexadecimal after marker body = (marker ≡ byte "x") × ((after ≡ byte "#" ∷ byte "x" ∷ body) ⊎ (after ≡ byte "#" ∷ byte "X" ∷ body))

abbrev pub IsMarkedReference : List ℕ → ℕ → List ℕ → Type 0
IsMarkedReference after marker body = IsName after marker body ⊎ (IsDecimal after marker body ⊎ IsHexadecimal after marker body)
