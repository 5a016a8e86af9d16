-- Tests on the value of a code.
use Rattle.std.specs.Prelude.{ℕ, zero, suc, ◌+◌, Bool, ◌||◌, ◌==◌, List, [], ◌∷◌, false, Option, None, Some}
use Rattle.std.specs.List.{list_any}
use Rattle.std.specs.Str.{byte}
use Rattle.markdown_model.specs.CodeTests.{is_between}
use Rattle.markdown_content.specs.Codes.{space_value, tab_value}

-- an ASCII letter
abbrev pub letter_value : ℕ → Bool
letter_value v = is_between (byte "A") (byte "Z") v || is_between (byte "a") (byte "z") v

-- an ASCII letter or digit
abbrev pub alphanumeric_value : ℕ → Bool
alphanumeric_value v = letter_value v || is_between (byte "0") (byte "9") v

-- one of these
abbrev pub among_values : List ℕ → ℕ → Bool
among_values ns v = list_any (λ n. v == n) ns

-- so many numbers, one after the other
abbrev pub numbers : ℕ → ℕ → List ℕ
numbers first zero = []
numbers first (suc n) = first ∷ numbers (first + 1) n

-- the ASCII control characters (CommonMark 2.1) other than NUL
abbrev pub controls : List ℕ
controls = 127 ∷ numbers 1 31

-- a blank code is at hand
abbrev pub at_blank : Option ℕ → Bool
at_blank None = false
at_blank (Some v) = v == space_value || v == tab_value
