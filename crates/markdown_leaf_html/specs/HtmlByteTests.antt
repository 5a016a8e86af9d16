-- Tests on the values of the codes of HTML in text.
use Rattle.std.specs.Prelude.{ℕ, Bool, ◌&&◌, ◌||◌, not, codes, ◌==◌}
use Rattle.markdown_plan.specs.ByteTests.{letter_value, alphanumeric_value, among_values}
use Rattle.std.specs.Str.{byte}

-- a space or a tab
abbrev pub blank_value : ℕ → Bool
blank_value v = v == byte " " || v == byte "\t"

-- a space, a tab or a line ending
abbrev pub whitespace_value : ℕ → Bool
whitespace_value v = blank_value v || v == byte "\n"

-- of a tag's name, but for its first code
abbrev pub name_value : ℕ → Bool
name_value v = alphanumeric_value v || v == byte "-"

-- the first code of an attribute's name
abbrev pub attribute_first_value : ℕ → Bool
attribute_first_value v = letter_value v || among_values (codes ":_") v

-- its later codes
abbrev pub attribute_rest_value : ℕ → Bool
attribute_rest_value v = alphanumeric_value v || among_values (codes "-.:_") v

-- what may follow a value or a tag's name
abbrev pub after_value : ℕ → Bool
after_value v = whitespace_value v || among_values (codes "/>") v

-- what may follow an unquoted value; no `/` where slashes may stand in it
abbrev pub unquoted_end_value : Bool → ℕ → Bool
unquoted_end_value slashes v = after_value v && not (v == byte "/" && slashes)

-- what no unquoted value holds, and what does not end it
abbrev pub barred_value : ℕ → Bool
barred_value v = among_values (codes "\"'<=`") v
