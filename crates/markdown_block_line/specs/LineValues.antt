-- Tests on the value of a code, and words on the values of a line.
use Rattle.std.specs.Prelude.{ℕ, zero, suc, ◌+◌, ◌-◌, ◌*◌, Bool, ◌&&◌, ◌||◌, nat_le, ◌==◌, List, [], ◌∷◌, if◌then◌else◌}
use Rattle.std.specs.List.{list_all}
use Rattle.std.specs.Str.{byte}
use Rattle.markdown_model.specs.CodeTests.{is_between}
use Rattle.markdown_content.specs.Codes.{line_feed, space_value, tab_value}

abbrev pub is_blank_value : ℕ → Bool
is_blank_value n = n == space_value || n == tab_value

abbrev pub is_whitespace_value : ℕ → Bool
is_whitespace_value n = is_blank_value n || n == line_feed

-- the value itself, or whitespace
abbrev pub is_row_value : ℕ → ℕ → Bool
is_row_value n v = v == n || is_whitespace_value v

-- how many values that pass stand first
abbrev pub front : (ℕ → Bool) → List ℕ → ℕ
front p [] = 0
front p (n ∷ ns) = if p n then suc (front p ns) else 0

-- how many values are left without those at the end that pass
abbrev pub onto_len : Bool → ℕ → ℕ
onto_len passes zero = if passes then 0 else 1
onto_len passes (suc k) = suc (suc k)

abbrev pub len_without_end : (ℕ → Bool) → List ℕ → ℕ
len_without_end p [] = 0
len_without_end p (n ∷ ns) = onto_len (p n) (len_without_end p ns)

-- how often the value stands there
abbrev pub count_value : ℕ → List ℕ → ℕ
count_value n [] = 0
count_value n (v ∷ vs) = (if v == n then 1 else 0) + count_value n vs

-- a thematic break of this marker
abbrev pub is_break_values : ℕ → List ℕ → Bool
is_break_values n ns = list_all (is_row_value n) ns && nat_le 3 (count_value n ns)

abbrev pub is_digit_value : ℕ → Bool
is_digit_value n = is_between (byte "0") (byte "9") n

-- the number that the digits are, behind this one
abbrev pub number_values : ℕ → List ℕ → ℕ
number_values n [] = n
number_values n (v ∷ vs) = number_values (n * 10 + (v - byte "0")) vs

-- what numbers of so many digits are less than
abbrev pub power_of_ten : ℕ → ℕ
power_of_ten zero = 1
power_of_ten (suc k) = 10 * power_of_ten k
