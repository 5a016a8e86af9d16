-- Tags at the start of the rest of a line.
use Rattle.std.specs.Prelude.{◌≡◌, ℕ, Bool, true, ◌||◌, not, ◌==◌, List, take, drop, Option, Some, None, MatchOption, codes}
use Rattle.std.specs.Str.{byte}
use Rattle.markdown_content.specs.Codes.{Code, document_start}
use Rattle.markdown_model.specs.CodeTests.{is_value, is_among, is_whitespace_code, is_letter, is_alphanumeric}
use Rattle.markdown_model.specs.Grammar.{Reading, one, any_number, word, optional, ◌then_◌}
use Rattle.markdown_model.specs.HtmlText.{spaces, optional_spaces, ends_value, is_later_code, attribute_value, attribute}
use Rattle.markdown_block_line.specs.declared.tags.Class.{Class}
use Rattle.markdown_block_line.specs.declared.tags.Class.TheVariants.{Letter, TagName, NameStart, AttributeName, Whitespace, ValueStart, Unquoted, ValueEnd, Only, Other}

-- a code of this value
abbrev pub code_of : ℕ → Code
code_of v = record { value = v; start = document_start; stop = document_start }

abbrev pub in_class : Class → ℕ → Bool
in_class Letter v = is_letter (code_of v)
in_class TagName v = is_alphanumeric (code_of v) || is_value (byte "-") (code_of v)
in_class NameStart v = is_letter (code_of v) || is_among (codes ":_") (code_of v)
in_class AttributeName v = is_alphanumeric (code_of v) || is_among (codes "-.:_") (code_of v)
in_class Whitespace v = is_whitespace_code (code_of v)
in_class ValueStart v = not (ends_value (code_of v))
in_class Unquoted v = is_later_code true (code_of v)
in_class ValueEnd v = is_whitespace_code (code_of v) || is_among (codes "/>") (code_of v)
in_class (Only n) v = v == n
in_class (Other n) v = not (v == n)

-- Readings.

-- the reading reads so many codes, or does not hold
abbrev pub Reads : Reading (List Code) → List Code → Option ℕ → Type 0
Reads a cs found = MatchOption found (a cs ≡ None) (λ k. a cs ≡ Some (take k cs, drop k cs))

-- a code of one class, and then those of another
unfoldable pub name : Class → Class → Reading (List Code)
name first more = one (λ c. in_class first c.value) then_ any_number (λ c. in_class more c.value)

-- what may follow the name of an attribute
unfoldable pub assigned_value : Reading (List Code)
assigned_value = optional_spaces then_ one (is_value (byte "=")) then_ optional_spaces then_ attribute_value true

unfoldable pub spaced_attribute : Reading (List Code)
spaced_attribute = spaces then_ attribute true

unfoldable pub tag_end : Reading (List Code)
tag_end = optional_spaces then_ optional (word "/") then_ word ">"
