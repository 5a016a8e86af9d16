-- Tests on one code, and words on lists of codes.
use Rattle.std.specs.Prelude.{ℕ, Bool, true, false, ◌&&◌, ◌||◌, nat_le, ◌==◌, List, [], ◌∷◌, length, Option, Some, None}
use Rattle.std.specs.Str.{byte}
use Rattle.std.specs.List.{list_any}
use Rattle.markdown_content.specs.Codes.{Code, space_value, is_line_ending, is_blank}

abbrev pub is_value : ℕ → Code → Bool
is_value n c = c.value == n

abbrev pub is_among : List ℕ → Code → Bool
is_among ns c = list_any (λ n. c.value == n) ns

abbrev pub is_between : ℕ → ℕ → ℕ → Bool
is_between low high n = nat_le low n && nat_le n high

-- a space, a tab or a line ending
abbrev pub is_whitespace_code : Code → Bool
is_whitespace_code c = is_blank c || is_line_ending c

-- a space that is no part of a tab
abbrev pub is_real_space : Code → Bool
is_real_space c = c.value == space_value && c.start.vs == 0

abbrev pub is_digit : Code → Bool
is_digit c = is_between (byte "0") (byte "9") c.value

abbrev pub is_hex_digit : Code → Bool
is_hex_digit c = is_digit c || is_between (byte "A") (byte "F") c.value || is_between (byte "a") (byte "f") c.value

-- an ASCII letter
abbrev pub is_letter : Code → Bool
is_letter c = is_between (byte "A") (byte "Z") c.value || is_between (byte "a") (byte "z") c.value

abbrev pub is_alphanumeric : Code → Bool
is_alphanumeric c = is_letter c || is_digit c

-- an ASCII punctuation character (CommonMark 2.1)
abbrev pub is_ascii_punctuation : Code → Bool
is_ascii_punctuation c = is_between (byte "!") (byte "/") c.value || is_between (byte ":") (byte "@") c.value || is_between (byte "[") (byte "`") c.value || is_between (byte "{") (byte "~") c.value

-- an ASCII control character (CommonMark 2.1) other than NUL
abbrev pub is_control : Code → Bool
is_control c = is_between 1 31 c.value || c.value == 127

-- a later byte of a character of several bytes
abbrev pub is_later_byte : Code → Bool
is_later_byte c = is_between 128 191 c.value

-- Words on lists of codes.

abbrev pub values_of : List Code → List ℕ
values_of [] = []
values_of (c ∷ cs) = c.value ∷ values_of cs

abbrev pub is_empty : List Code → Bool
is_empty [] = true
is_empty (c ∷ cs) = false

abbrev pub first_code : List Code → Option Code
first_code [] = None
first_code (c ∷ cs) = Some c

abbrev pub last_code : List Code → Option Code
last_code [] = None
last_code (c ∷ cs) = elim cs [ [] ↦ Some c | d ∷ ds ↦ last_code cs ]

-- there is a code, and it passes
abbrev pub is_some_code : (Code → Bool) → Option Code → Bool
is_some_code p None = false
is_some_code p (Some c) = p c

abbrev pub next_is : (Code → Bool) → List Code → Bool
next_is p cs = is_some_code p (first_code cs)

abbrev pub is_length_in : ℕ → ℕ → List Code → Bool
is_length_in low high cs = is_between low high (length cs)
