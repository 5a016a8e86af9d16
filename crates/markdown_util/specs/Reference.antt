-- Character references, and what they stand for (CommonMark 0.31, section 2.5).
use Rattle.std.specs.Prelude.{◌≡◌, ◌⊎◌, ℕ, zero, suc, ◌+◌, ◌^◌, ◌<◌, ◌%◌, Bool, true, false, not, ◌&&◌, ◌||◌, ◌==◌, nat_lt, nat_le, List, [], ◌∷◌, ◌++◌, length, map, Option, Some, None, IsTrue, encode_utf8, if◌then◌else◌}
use Rattle.std.specs.Borrow.{Bor}
use Rattle.std.specs.Cmp.Lexicographic.{slice_cmp}
use Rattle.std.specs.Ordering.{is_lt, nat_cmp}
use Rattle.std.specs.Char.{is_control, is_ascii_alphanumeric, is_ascii_digit, is_ascii_hexdigit}
use Rattle.std.specs.Int.{is_in_range}
use Rattle.std.specs.List.{list_all, list_any, position_or_len, before_first}
use Rattle.std.specs.Str.{bytes_eq, byte}
use Rattle.std.specs.Str.Parse.{IsNumeral, digits_value}
use Rattle.markdown_util.specs.declared.util.constant.TheConstants.{HTML_5_CAPITALS, HTML_5_A_TO_D, HTML_5_E_TO_L, HTML_5_M_TO_R, HTML_5_S_TO_Z, HTML_4_CAPITALS, HTML_4_A_TO_D, HTML_4_E_TO_L, HTML_4_M_TO_R, HTML_4_S_TO_Z, CHARACTER_REFERENCES_HTML}
use Rattle.markdown_util.specs.declared.decoding.Decoding.{Decoding}
use Rattle.markdown_util.specs.declared.util.character_reference.Names.{Names}
use Rattle.markdown_util.specs.declared.util.character_reference.Names.TheVariants.{Html4, Html5, Html}

-- The three kinds of reference, each named by a byte: `&` for a name, `#` for a decimal number and `x` for a hexadecimal one. The value is what stands before the `;`.

abbrev pub IsReferenceMarker : ℕ → Type 0
IsReferenceMarker marker = (marker ≡ byte "&") ⊎ ((marker ≡ byte "#") ⊎ (marker ≡ byte "x"))

-- how many bytes a value has at most
abbrev pub value_size_max : ℕ → ℕ
value_size_max marker = if marker == byte "&" then 31 else (if marker == byte "#" then 7 else 6)

-- the bytes that a value is made of
abbrev pub is_value_byte : ℕ → ℕ → Bool
is_value_byte marker b =
    if marker == byte "&" then is_ascii_alphanumeric b else (if marker == byte "#" then is_ascii_digit b else is_ascii_hexdigit b)

-- one byte that a value is made of, or more, up to the most
abbrev pub is_value : ℕ → List ℕ → Bool
is_value marker bytes = (nat_lt 0 (length bytes) && nat_le (length bytes) (value_size_max marker)) && list_all (is_value_byte marker) bytes

-- The table of names.

-- lines of a name, without `&` and `;`, and the text that it stands for, both in UTF-8
abbrev pub Table : Type 0
Table = List (List ℕ × List ℕ)

-- the lines of a table as a program holds it
abbrev pub rows_of : List (Bor (List ℕ) × Bor (List ℕ)) → Table
rows_of rows = map (λ row. (row.0.now, row.1.now)) rows

-- The tables of HTML 4 and of HTML 5 stand in five parts each, by the first letter of the names: what is computed of a part asks for no other.

unfoldable pub html_4_capitals : Table
html_4_capitals = map (λ row. (row.0.now, row.1.now)) HTML_4_CAPITALS

unfoldable pub html_4_a_to_d : Table
html_4_a_to_d = map (λ row. (row.0.now, row.1.now)) HTML_4_A_TO_D

unfoldable pub html_4_e_to_l : Table
html_4_e_to_l = map (λ row. (row.0.now, row.1.now)) HTML_4_E_TO_L

unfoldable pub html_4_m_to_r : Table
html_4_m_to_r = map (λ row. (row.0.now, row.1.now)) HTML_4_M_TO_R

unfoldable pub html_4_s_to_z : Table
html_4_s_to_z = map (λ row. (row.0.now, row.1.now)) HTML_4_S_TO_Z

unfoldable pub html_5_capitals : Table
html_5_capitals = map (λ row. (row.0.now, row.1.now)) HTML_5_CAPITALS

unfoldable pub html_5_a_to_d : Table
html_5_a_to_d = map (λ row. (row.0.now, row.1.now)) HTML_5_A_TO_D

unfoldable pub html_5_e_to_l : Table
html_5_e_to_l = map (λ row. (row.0.now, row.1.now)) HTML_5_E_TO_L

unfoldable pub html_5_m_to_r : Table
html_5_m_to_r = map (λ row. (row.0.now, row.1.now)) HTML_5_M_TO_R

unfoldable pub html_5_s_to_z : Table
html_5_s_to_z = map (λ row. (row.0.now, row.1.now)) HTML_5_S_TO_Z

unfoldable pub html_4_rows : Table
html_4_rows = html_4_capitals ++ (html_4_a_to_d ++ (html_4_e_to_l ++ (html_4_m_to_r ++ html_4_s_to_z)))

unfoldable pub html_5_rows : Table
html_5_rows = html_5_capitals ++ (html_5_a_to_d ++ (html_5_e_to_l ++ (html_5_m_to_r ++ html_5_s_to_z)))

unfoldable pub html_rows : Table
html_rows = map (λ row. (row.0.now, row.1.now)) CHARACTER_REFERENCES_HTML

-- the lines of the table that is named
abbrev pub rows_named : Names → Table
rows_named Html4 = html_4_rows
rows_named Html5 = html_5_rows
rows_named Html = html_rows

-- the names that a reference may have: all names of HTML (CommonMark 2.5), or those of HTML 5 as they are shipped
abbrev pub known_names : Bool → Names
known_names true = Html
known_names false = Html5

-- the lines of HTML 5, or else those of HTML 4
abbrev pub rows_for : Bool → Table
rows_for true = html_5_rows
rows_for false = html_4_rows

abbrev pub has_name : Table → List ℕ → Bool
has_name rows name = list_any (λ row. bytes_eq row.0 name) rows

-- no name stands in two lines
abbrev pub has_distinct_names : Table → Bool
has_distinct_names [] = true
has_distinct_names (row ∷ rows) = not (has_name rows row.0) && has_distinct_names rows

-- the names stand in the order of their bytes, each of them once
abbrev pub is_below : List ℕ → List ℕ → Bool
is_below xs ys = is_lt (slice_cmp nat_cmp xs ys)

abbrev pub is_below_first : List ℕ → Table → Bool
is_below_first name [] = true
is_below_first name (row ∷ rows) = is_below name row.0

abbrev pub is_sorted : Table → Bool
is_sorted [] = true
is_sorted (row ∷ rows) = is_below_first row.0 rows && is_sorted rows

-- what holds of a table of names, whichever lines it has
pub record IsTable (rows : Table) : Type 0 where
  pub names : IsTrue (list_all (λ row. is_value (byte "&") row.0) rows)
  pub distinct : IsTrue (has_distinct_names rows)

-- the text in the line of a name
abbrev pub named_value : Table → List ℕ → Option (List ℕ)
named_value [] name = None
named_value (row ∷ rows) name = elim (bytes_eq row.0 name) [ true ↦ Some row.1 | false ↦ named_value rows name ]

-- Numbers.

-- U+FDD0 to U+FDEF, and the last two code points of each plane
abbrev pub is_noncharacter : ℕ → Bool
is_noncharacter n = is_in_range 0xFDD0 0xFDEF n || nat_le 0xFFFE (n % 0x1_0000)

-- a control other than TAB, LF, FF and CR, a surrogate, a noncharacter, or past the last code point
abbrev pub is_replaced : ℕ → Bool
is_replaced n =
    (is_control n && not (list_any (λ c. c == n) (9 ∷ 10 ∷ 12 ∷ 13 ∷ [])))
    || (is_in_range 0xD800 0xDFFF n || (is_noncharacter n || nat_lt 0x10_FFFF n))

-- the character that a number stands for; the replacement character is U+FFFD
abbrev pub character_of : ℕ → ℕ
character_of n = if is_replaced n then 0xFFFD else n

-- 0, a surrogate, or past the last code point
abbrev pub is_no_character : ℕ → Bool
is_no_character n = (n == 0) || (is_in_range 0xD800 0xDFFF n || nat_lt 0x10_FFFF n)

-- the character that a number stands for, where controls are kept (CommonMark 2.5), and where they are not
abbrev pub character_by : Bool → ℕ → ℕ
character_by true n = if is_no_character n then 0xFFFD else n
character_by false n = character_of n

-- the text that digits in a radix stand for
abbrev pub numeric_value : ℕ → List ℕ → List ℕ
numeric_value radix digits = encode_utf8 (character_of (digits_value radix digits))

-- the radix of a number
abbrev pub radix_of : ℕ → ℕ
radix_of marker = if marker == byte "#" then 10 else 16

-- digits in a radix, at least one, of a number below 2 ^ 32
pub record IsNumber (radix : ℕ) (digits : List ℕ) : Type 0 where
  pub numeral : IsNumeral radix digits
  pub small : digits_value radix digits < 2 ^ 32

-- the text that a value stands for
abbrev pub decoded : Table → List ℕ → ℕ → Option (List ℕ)
decoded table value marker =
    elim (marker == byte "&") [
      | true ↦ named_value table value
      | false ↦ Some (numeric_value (radix_of marker) value)
    ]

-- the text that a value stands for, by the names that are known and by whether controls are kept
abbrev pub decoded_by : Decoding → List ℕ → ℕ → Option (List ℕ)
decoded_by how value marker =
    elim (marker == byte "&") [
      | true ↦ named_value (rows_named how.names) value
      | false ↦ Some (encode_utf8 (character_by how.controls_are_kept (digits_value (radix_of marker) value)))
    ]

-- as references are decoded without any option
abbrev pub shipped_decoding : Decoding
shipped_decoding = record { names = Html5; controls_are_kept = false }

-- A text with references.

-- the text of a number, where the digits are a value of this marker
abbrev pub number_text : ℕ → List ℕ → Option (List ℕ)
number_text marker digits = elim (is_value marker digits) [ true ↦ Some (numeric_value (radix_of marker) digits) | false ↦ None ]

-- the text of what follows `#`: `x` or `X` and 1 to 6 hexadecimal digits, or 1 to 7 decimal digits
abbrev pub numbered_text : List ℕ → Option (List ℕ)
numbered_text [] = None
numbered_text (b ∷ bs) = elim (b == byte "x" || b == byte "X") [ true ↦ number_text (byte "x") bs | false ↦ number_text (byte "#") (b ∷ bs) ]

-- the text of what stands between `&` and `;`: a number after `#`, or a name
abbrev pub inner_text : Table → List ℕ → Option (List ℕ)
inner_text table [] = None
inner_text table (b ∷ bs) = elim (b == byte "#") [ true ↦ numbered_text bs | false ↦ named_value table (b ∷ bs) ]

abbrev pub is_semicolon : ℕ → Bool
is_semicolon b = b == byte ";"

-- the text of the whole reference that an `&` begins in front of these bytes: it ends with the first `;` among them
abbrev pub reference_text : Table → List ℕ → Option (List ℕ)
reference_text table after =
    elim (list_any is_semicolon after) [ true ↦ inner_text table (before_first is_semicolon after) | false ↦ None ]

-- the text with the value of each whole reference in its place, from the left; `skipped` more bytes belong to the reference just read
abbrev pub parsed_after : Table → ℕ → List ℕ → List ℕ
parsed_after table skipped [] = []
parsed_after table (suc skipped) (b ∷ bs) = parsed_after table skipped bs
parsed_after table zero (b ∷ bs) =
    elim (b == byte "&") [
      | false ↦ b ∷ parsed_after table 0 bs
      | true ↦ elim (reference_text table bs) [
        | None ↦ b ∷ parsed_after table 0 bs
        | Some text ↦ text ++ parsed_after table (position_or_len is_semicolon bs + 1) bs
      ]
    ]

abbrev pub parsed : Table → List ℕ → List ℕ
parsed table bytes = parsed_after table 0 bytes
