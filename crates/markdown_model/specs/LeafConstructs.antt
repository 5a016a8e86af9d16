-- The constructs without inline content: escapes, references, spans, autolinks and task checks.
use Rattle.std.specs.Prelude.{ℕ, Bool, true, false, ◌&&◌, ◌||◌, not, nat_le, ◌==◌, List, [], ◌∷◌, ◌++◌, length, codes, Option, Some, None, is_some}
use Rattle.std.specs.Str.{byte}
use Rattle.markdown_content.specs.Codes.{Code, is_line_ending, is_blank}
use Rattle.markdown_content.specs.declared.configuration.Rules.{Rules}
use Rattle.markdown_content.specs.Tree.{Forest, ◌⊕◌, leaf, group}
use Rattle.markdown_event.specs.declared.event.Name.{Name}
use Rattle.markdown_util.specs.Reference.{Table, named_value}
use Rattle.markdown_model.specs.CodeTests.{is_value, is_among, is_whitespace_code, is_digit, is_hex_digit, is_letter, is_alphanumeric, is_ascii_punctuation, is_control, values_of, is_empty, last_code, is_some_code, next_is, is_length_in}
use Rattle.markdown_model.specs.Grammar.{Reading, ◌>>=◌, ◌>>◌, gives, either, provided, one, some, any_number, before, span, ◌then_◌, repeatedly}
use Rattle.markdown_model.specs.TextLines.{stretches, line_leaves}

-- Escapes (CommonMark 2.4): a backslash and an ASCII punctuation character.

abbrev pub escape_tree : List Code → List Code → Forest
escape_tree slash value = group Name.CharacterEscape (leaf Name.CharacterEscapeMarker slash ⊕ leaf Name.CharacterEscapeValue value)

unfoldable pub character_escape : Reading Forest
character_escape = do
  slash ← one (is_value (byte "\\"))
  value ← one is_ascii_punctuation
  gives (escape_tree slash value)

-- Hard breaks by a backslash (CommonMark 6.7): a backslash before a line ending, which stays one.
unfoldable pub hard_break_escape : Reading Forest
hard_break_escape = do
  slash ← before (one (is_value (byte "\\"))) (next_is is_line_ending)
  gives (leaf Name.HardBreakEscape slash)

-- Character references (CommonMark 2.5): `&`, a name of the table or a number, and `;`.

-- the parts of a reference; a named one has no number sign, and only a hexadecimal one an `x`
pub record Parts : Type 0 where
  pub front : List Code
  pub number : List Code
  pub hexadecimal : List Code
  pub value : List Code
  pub back : List Code

abbrev pub is_name : Table → List Code → Bool
is_name table cs = is_some (named_value table (values_of cs))

unfoldable pub named_parts : Table → Reading Parts
named_parts table = do
  front ← one (is_value (byte "&"))
  value ← some is_alphanumeric
  provided (is_name table value)
  back ← one (is_value (byte ";"))
  gives (record { front = front; number = []; hexadecimal = []; value = value; back = back })

-- 1 to 7 digits
unfoldable pub decimal_parts : Reading Parts
decimal_parts = do
  front ← one (is_value (byte "&"))
  number ← one (is_value (byte "#"))
  value ← some is_digit
  provided (nat_le (length value) 7)
  back ← one (is_value (byte ";"))
  gives (record { front = front; number = number; hexadecimal = []; value = value; back = back })

-- 1 to 6 digits
unfoldable pub hexadecimal_parts : Reading Parts
hexadecimal_parts = do
  front ← one (is_value (byte "&"))
  number ← one (is_value (byte "#"))
  hexadecimal ← one (is_among (codes "xX"))
  value ← some is_hex_digit
  provided (nat_le (length value) 6)
  back ← one (is_value (byte ";"))
  gives (record { front = front; number = number; hexadecimal = hexadecimal; value = value; back = back })

abbrev pub reference_tree : Parts → Forest
reference_tree p =
    group Name.CharacterReference (leaf Name.CharacterReferenceMarker p.front
    ⊕ leaf Name.CharacterReferenceMarkerNumeric p.number
    ⊕ leaf Name.CharacterReferenceMarkerHexadecimal p.hexadecimal
    ⊕ leaf Name.CharacterReferenceValue p.value
    ⊕ leaf Name.CharacterReferenceMarkerSemi p.back)

unfoldable pub character_reference : Table → Reading Forest
character_reference table = do
  parts ← either (named_parts table) (either decimal_parts hexadecimal_parts)
  gives (reference_tree parts)

-- Code spans (CommonMark 6.1), and math spans alike: an opening run of markers closes at the next run
-- of equal length. Line endings and runs of another length inside are leaves of their own; nothing is
-- stripped here.

abbrev pub joined_codes : List (List Code) → List Code
joined_codes [] = []
joined_codes (s ∷ ss) = s ++ joined_codes ss

-- all up to the first stretch that is a run of exactly n markers, the run, and what is after it
unfoldable pub closing_run : (Code → Bool) → ℕ → List (List Code) → Option ((List (List Code) × List Code) × List Code)
closing_run marker n [] = None
closing_run marker n (s ∷ ss) =
    elim (next_is marker s && length s == n) [
      | true ↦ Some (([], s), joined_codes ss)
      | false ↦ elim (closing_run marker n ss) [ None ↦ None | Some r ↦ Some ((s ∷ r.0.0, r.0.1), r.1) ]
    ]

-- the rest of a span whose opening run has n markers
abbrev pub closing : (Code → Bool) → ℕ → Reading (List (List Code) × List Code)
closing marker n cs = closing_run marker n (stretches marker cs)

pub record SpanNames : Type 0 where
  pub whole : Name
  pub sequence : Name
  pub text : Name

abbrev pub code_names : SpanNames
code_names = record { whole = Name.CodeText; sequence = Name.CodeTextSequence; text = Name.CodeTextData }

abbrev pub math_names : SpanNames
math_names = record { whole = Name.MathText; sequence = Name.MathTextSequence; text = Name.MathTextData }

-- `allowed` says which lengths of an opening run will do
unfoldable pub span_of : ℕ → SpanNames → (ℕ → Bool) → Reading Forest
span_of marker names allowed = do
  front ← some (is_value marker)
  provided (allowed (length front))
  inside ← closing (is_value marker) (length front)
  gives (group names.whole (leaf names.sequence front ⊕ line_leaves names.text inside.0 ⊕ leaf names.sequence inside.1))

-- the same marker does not stand before, unless it is `escaped`: the value of an escape
unfoldable pub span_here : ℕ → SpanNames → (ℕ → Bool) → Bool → Option Code → Reading Forest
span_here marker names allowed escaped previous =
    provided (escaped || not (is_some_code (is_value marker) previous)) >> span_of marker names allowed

-- Autolinks (CommonMark 6.5).

abbrev pub is_scheme_code : Code → Bool
is_scheme_code c = is_alphanumeric c || is_among (codes "+-.") c

-- 2 to 32 codes, the first a letter
unfoldable pub scheme : Reading (List Code)
scheme = do
  text ← one is_letter then_ some is_scheme_code
  provided (is_length_in 2 32 text)
  gives text

-- no ASCII control, no space and no angle bracket; NUL is no control where it is read as U+FFFD (CommonMark 2.3)
abbrev pub is_uri_code : Bool → Code → Bool
is_uri_code replaced c = not (is_among (codes " <>") c || is_control c || (is_value (byte "\0") c && not replaced))

-- a code of an email address before its `@`; `!` is one where all of CommonMark's marks are, and `"` is none
abbrev pub is_local_code : Bool → Code → Bool
is_local_code all c = is_alphanumeric c || is_among (codes "#$%&'*+-./=?^_`{|}~") c || (is_value (byte "!") c && all)

-- 1 to 63 letters, digits and hyphens, with no hyphen first or last
unfoldable pub domain_label : Reading (List Code)
domain_label = do
  text ← some (λ c. is_alphanumeric c || is_value (byte "-") c)
  provided (is_length_in 1 63 text && next_is is_alphanumeric text && is_some_code is_alphanumeric (last_code text))
  gives text

unfoldable pub uri : Bool → Reading (List Code)
uri replaced = scheme then_ one (is_value (byte ":")) then_ any_number (is_uri_code replaced)

unfoldable pub email_address : Bool → Reading (List Code)
email_address all =
    some (is_local_code all) then_ one (is_value (byte "@")) then_ domain_label then_ repeatedly (one (is_value (byte ".")) then_ domain_label)

unfoldable pub in_angle_brackets : Reading (List Code) → Name → Reading Forest
in_angle_brackets inside name = do
  front ← one (is_value (byte "<"))
  text ← inside
  back ← one (is_value (byte ">"))
  gives (group Name.Autolink (leaf Name.AutolinkMarker front ⊕ leaf name text ⊕ leaf Name.AutolinkMarker back))

unfoldable pub autolink : Rules → Reading Forest
autolink rules =
    either (in_angle_brackets (uri rules.nul_is_replaced) Name.AutolinkProtocol)
    (in_angle_brackets (email_address rules.all_address_marks) Name.AutolinkEmail)

-- The check of a task list item (GFM 5.3), at the first code of the item's first paragraph.

abbrev pub check_name : List Code → Name
check_name cs = elim (next_is (is_among (codes "xX")) cs) [ true ↦ Name.GfmTaskListItemValueChecked | false ↦ Name.GfmTaskListItemValueUnchecked ]

-- a line ending, or blank codes and some further code
abbrev pub begins_task_text : List Code → Bool
begins_task_text [] = false
begins_task_text (c ∷ cs) = is_line_ending c || (is_blank c && not (is_empty (span is_blank cs).1))

unfoldable pub gfm_task_list_item_check : Reading Forest
gfm_task_list_item_check = do
  front ← one (is_value (byte "["))
  value ← one (λ c. is_whitespace_code c || is_among (codes "xX") c)
  back ← before (one (is_value (byte "]"))) begins_task_text
  gives (group Name.GfmTaskListItemCheck (leaf Name.GfmTaskListItemMarker front ⊕ leaf (check_name value) value ⊕ leaf Name.GfmTaskListItemMarker back))
