-- What a run is given beside its content.
use Rattle.std.specs.Prelude.{ℕ, Bool, true, false, ◌==◌, ◌&&◌, ◌||◌, not, List, [], ◌∷◌}
use Rattle.std.specs.List.{list_any}
use Rattle.std.specs.Str.{byte, bytes_eq}
use Rattle.markdown_content.specs.Codes.{Code}
use Rattle.markdown_content.specs.CommonMark.{rules_of}
use Rattle.markdown_content.specs.declared.configuration.ParseOptions.{ParseOptions}
use Rattle.markdown_content.specs.declared.configuration.Rules.{Rules}
use Rattle.markdown_util.specs.Reference.{Table, known_names, rows_named}

pub record Setting : Type 0 where
  -- the document
  pub bytes : List ℕ
  pub options : ParseOptions
  -- the named character references
  pub references : Table
  -- the identifiers of the definitions and of the footnote definitions
  pub definitions : List (List ℕ)
  pub footnotes : List (List ℕ)
  -- the content is the first paragraph of a list item
  pub first_of_item : Bool
  -- the codes of the content that is read, as `within` gives them; until then none
  pub content : List Code

-- the content that is read is this one
abbrev pub within : List Code → Setting → Setting
within cs s = record s { content = cs }

-- the rules that the options choose
abbrev pub rules : Setting → Rules
rules s = rules_of s.options

-- The names of references (CommonMark 2.5): all names of HTML that end in a semicolon. Here a part of them are, unless an option says so.
abbrev pub references_of : ParseOptions → Table
references_of o = rows_named (known_names (rules_of o).html_names)

abbrev pub is_defined : List (List ℕ) → List ℕ → Bool
is_defined definitions name = list_any (bytes_eq name) definitions

-- Labels of definitions (CommonMark 4.7 and 6.3): a link label is not blank, and each bracket in it has a backslash of its own. Folding the
-- case of a text and joining its words change neither, so an identifier shows both. Here any identifier may be defined.

-- each bracket stands behind a backslash that is its own; `taken` says that the first byte does
abbrev pub brackets_are_escaped : Bool → List ℕ → Bool
brackets_are_escaped taken [] = true
brackets_are_escaped true (b ∷ bs) = brackets_are_escaped false bs
brackets_are_escaped false (b ∷ bs) = not (b == byte "[" || b == byte "]") && brackets_are_escaped (b == byte "\\") bs

-- a link label may have this identifier
abbrev pub is_of_label : List ℕ → Bool
is_of_label [] = false
is_of_label (b ∷ bs) = brackets_are_escaped false (b ∷ bs)

-- a definition has this identifier
abbrev pub defines : Setting → List ℕ → Bool
defines s name = is_defined s.definitions name && (not (rules s).definitions_have_labels || is_of_label name)
