-- What stands after a label: reference labels, and resources with a destination and a title.
use Rattle.std.specs.Prelude.{ℕ, zero, suc, ◌+◌, ◌-◌, Bool, true, false, ◌&&◌, ◌||◌, not, nat_lt, nat_le, ◌==◌, List, [], ◌∷◌, ◌++◌, codes, Some, None, if◌then◌else◌}
use Rattle.std.specs.Str.{byte}
use Rattle.std.specs.List.{list_any}
use Rattle.markdown_content.specs.Codes.{Code, is_line_ending, is_blank}
use Rattle.markdown_content.specs.Content.{has_no_blank_line}
use Rattle.markdown_content.specs.Tree.{Forest, empty, ◌⊕◌, leaf, leaf_then, group_then, linked, group}
use Rattle.markdown_event.specs.declared.event.Name.{Name}
use Rattle.markdown_event.specs.declared.event.Content.{Content}
use Rattle.markdown_model.specs.CodeTests.{is_value, is_among, is_empty, next_is, is_whitespace_code, is_control, is_later_byte}
use Rattle.markdown_model.specs.Grammar.{Reading, ◌>>=◌, ◌>>◌, gives, either, provided, if_next, one, before, with_first, up_to, optional_tree}
use Rattle.markdown_model.specs.TextLines.{lines}
use Rattle.markdown_model.specs.Whitespace.{space_or_tab_eol}

-- Texts between two markers.

-- the names of a text with its markers
pub record StringNames : Type 0 where
  pub whole : Name
  pub marker : Name
  pub text : Name

abbrev pub reference_names : StringNames
reference_names = record { whole = Name.Reference; marker = Name.ReferenceMarker; text = Name.ReferenceString }

abbrev pub title_names : StringNames
title_names = record { whole = Name.ResourceTitle; marker = Name.ResourceTitleMarker; text = Name.ResourceTitleString }

-- the group of a text, absent where the text is empty
abbrev pub string_group : Name → Forest → Forest
string_group name empty = empty
string_group name (leaf_then n l c r) = group name (leaf_then n l c r)
string_group name (group_then n a b i r) = group name (group_then n a b i r)

-- its lines are one chain of linked leaves, to be read as a string
abbrev pub between_markers : StringNames → List Code → List Code → List Code → Forest
between_markers names front text back =
    group names.whole (leaf names.marker front
    ⊕ string_group names.text (lines Name.Data (Some Content.String) text)
    ⊕ leaf names.marker back)

-- Labels (CommonMark 6.3, link label): `[` up to the first `]` that is not escaped, with no bare `[`
-- inside, at least one code that is no whitespace, and at most 999 characters. Here codes count in place of
-- characters, and line endings do not. Neither here nor in CommonMark do the blank codes count that stand
-- behind a line ending. A blank line cannot stand inside.

-- a code that is no line ending begins a character: it is no later byte of one, and no later column of a tab
abbrev pub begins_character : Code → Bool
begins_character c = not (is_later_byte c) && c.start.vs == 0

-- how many count: characters, if `characters` says so, else codes; `indent` says that a line ending and
-- blank codes alone stand before on the line
abbrev pub counted : Bool → Bool → List Code → ℕ
counted characters indent [] = 0
counted characters indent (c ∷ cs) =
    elim (is_line_ending c) [
      | true ↦ (if characters then 1 else 0) + counted characters true cs
      | false ↦ elim (indent && is_blank c) [
        | true ↦ counted characters true cs
        | false ↦ (if not characters || begins_character c then 1 else 0) + counted characters false cs
      ]
    ]

unfoldable pub label : Bool → StringNames → Reading Forest
label characters names = do
  front ← one (is_value (byte "["))
  text ← up_to (is_value (byte "]")) (is_among (codes "[\\]")) (is_value (byte "["))
  provided (list_any (λ c. not (is_whitespace_code c)) text)
  provided (nat_le (counted characters false text) 999)
  back ← one (is_value (byte "]"))
  provided (has_no_blank_line true (text ++ back))
  gives (between_markers names front text back)

-- Titles (CommonMark 6.3, link title): between two `"`, two `'`, or `(` and `)`, up to the first closer
-- that is not escaped; no blank line. By CommonMark a `(` between parentheses has to be escaped too; here it
-- may stand bare.

-- what a backslash escapes between these markers, and what may not stand there bare; `both` says that the
-- opener has to be escaped as the closer has
abbrev pub escaped_between : Bool → ℕ → ℕ → Code → Bool
escaped_between both opener closer c = c.value == byte "\\" || (c.value == closer || (both && c.value == opener))

abbrev pub is_bare_opener : Bool → ℕ → Code → Bool
is_bare_opener both opener c = both && c.value == opener

unfoldable pub title_between : Bool → ℕ → ℕ → StringNames → Reading Forest
title_between both opener closer names = do
  front ← one (is_value opener)
  text ← up_to (is_value closer) (escaped_between both opener closer) (is_bare_opener both opener)
  back ← one (is_value closer)
  provided (has_no_blank_line true (text ++ back))
  gives (between_markers names front text back)

-- `both` is asked of parentheses: a quote ends its title where it stands bare
unfoldable pub title : Bool → StringNames → Reading Forest
title both names = either (title_between false (byte "\"") (byte "\"") names) (either (title_between false (byte "'") (byte "'") names) (title_between both (byte "(") (byte ")") names))

-- Destinations (CommonMark 6.3, link destination).

-- the names of a destination
pub record DestinationNames : Type 0 where
  pub whole : Name
  pub literal : Name
  pub marker : Name
  pub raw : Name
  pub text : Name

abbrev pub resource_names : DestinationNames
resource_names = record { whole = Name.ResourceDestination; literal = Name.ResourceDestinationLiteral; marker = Name.ResourceDestinationLiteralMarker; raw = Name.ResourceDestinationRaw; text = Name.ResourceDestinationString }

-- `<` up to the first `>` that is not escaped, with no line ending and no bare `<`
unfoldable pub literal_destination : DestinationNames → Reading Forest
literal_destination names = do
  front ← one (is_value (byte "<"))
  text ← up_to (is_value (byte ">")) (is_among (codes "<>\\")) (λ c. is_value (byte "<") c || is_line_ending c)
  back ← one (is_value (byte ">"))
  gives (group names.whole (group names.literal
      (leaf names.marker front ⊕ string_group names.text (linked Name.Data text) ⊕ leaf names.marker back)))

-- The codes of a raw destination from here on: up to whitespace, the end, or a `)` that closes no `(` of
-- it. Parentheses are balanced, unless they are escaped, and nest at most `max` deep; no control stands
-- inside. `depth` of them are open here; `slash` says that a backslash stands before that is not escaped.
unfoldable pub raw_from : ℕ → Bool → ℕ → Reading (List Code)
raw_from max slash depth [] = elim depth [ zero ↦ Some ([], []) | suc d ↦ None ]
raw_from max slash depth (c ∷ cs) =
    elim (slash && is_among (codes "()\\") c) [
      | true ↦ with_first c (raw_from max false depth cs)
      | false ↦ elim (is_whitespace_code c || (is_value (byte ")") c && depth == 0)) [
        | true ↦ elim depth [ zero ↦ Some ([], c ∷ cs) | suc d ↦ None ]
        | false ↦ elim (is_control c) [
          | true ↦ None
          | false ↦ elim (is_value (byte "(") c) [
            | true ↦ elim (nat_lt depth max) [ true ↦ with_first c (raw_from max false (suc depth) cs) | false ↦ None ]
            | false ↦ elim (is_value (byte ")") c) [
              | true ↦ with_first c (raw_from max false (depth - 1) cs)
              | false ↦ with_first c (raw_from max (is_value (byte "\\") c) depth cs)
            ]
          ]
        ]
      ]
    ]

unfoldable pub raw_destination : ℕ → DestinationNames → Reading Forest
raw_destination max names = do
  text ← raw_from max false 0
  provided (not (is_empty text))
  gives (group names.whole (group names.raw (group names.text (linked Name.Data text))))

-- a destination that begins with `<` is never raw
unfoldable pub destination : ℕ → DestinationNames → Reading Forest
destination max names = if_next (is_value (byte "<")) (literal_destination names) (raw_destination max names)

-- Resources (CommonMark 6.3, inline link): in parentheses a destination, and a title apart from it, both
-- optional, with whitespace around them. Here parentheses of a destination nest at most 32 deep.

abbrev pub begins_title : List Code → Bool
begins_title cs = next_is (is_among (codes "\"'(")) cs

-- `both` is that of the title
unfoldable pub spaced_title : Bool → Reading Forest
spaced_title both = do
  space ← before (space_or_tab_eol None) begins_title
  text ← title both title_names
  back ← optional_tree (space_or_tab_eol None)
  gives (space ⊕ text ⊕ back)

unfoldable pub destination_and_title : Bool → Reading Forest
destination_and_title both = do
  target ← destination 32 resource_names
  after ← either (spaced_title both) (optional_tree (space_or_tab_eol None))
  gives (target ⊕ after)

unfoldable pub resource : Bool → Reading Forest
resource both = do
  front ← one (is_value (byte "("))
  space ← optional_tree (space_or_tab_eol None)
  inside ← if_next (is_value (byte ")")) (gives empty) (destination_and_title both)
  back ← one (is_value (byte ")"))
  gives (group Name.Resource (leaf Name.ResourceMarker front ⊕ space ⊕ inside ⊕ leaf Name.ResourceMarker back))
