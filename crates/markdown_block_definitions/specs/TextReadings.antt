-- What readings leave, and the texts of a definition that stand between two markers.
use Rattle.std.specs.Prelude.{◌≡◌, ℕ, Bool, true, false, ◌||◌, ◌==◌, List, [], ◌∷◌, drop, filter, not, Option, Some, None, codes}
use Rattle.std.specs.Str.{byte}
use Rattle.markdown_content.specs.Codes.{Code, is_line_ending}
use Rattle.markdown_model.specs.CodeTests.{is_value, is_among}
use Rattle.markdown_model.specs.Grammar.{Reading, escaped_from, with_first}
use Rattle.markdown_model.specs.Resource.{escaped_between, is_bare_opener, raw_from}
use Rattle.markdown_block_line.specs.LineTags.{code_of}
use Rattle.markdown_page_model.specs.PageTexts.{is_later_column}
use Rattle.markdown_block_definitions.specs.declared.texts.Text.{Text}
use Rattle.markdown_block_definitions.specs.declared.texts.Text.TheVariants.{Label, Title, Literal}
use Rattle.markdown_block_definitions.specs.declared.texts.Step.{Step}
use Rattle.markdown_block_definitions.specs.declared.texts.Step.TheVariants.{Passes, Ends, Fails}
use Rattle.markdown_block_definitions.specs.declared.destinations.RawStep.{RawStep}
use Rattle.markdown_block_definitions.specs.declared.destinations.RawStep.TheVariants.{Goes, Stops, Breaks}

-- the codes that a reading leaves, if it holds
abbrev pub left_by : {A : Type 0} → Option (A × List Code) → Option (List Code)
left_by None = None
left_by (Some r) = Some r.1

-- the codes behind so many
abbrev pub behind : Option ℕ → List Code → Option (List Code)
behind None cs = None
behind (Some k) cs = Some (drop k cs)

-- Texts between two markers (CommonMark 6.3).

-- what ends a text
abbrev pub closer : Text → ℕ
closer Label = byte "]"
closer (Title both before after) = after
closer Literal = byte ">"

-- what a backslash escapes in it
abbrev pub is_escapable : Text → ℕ → Bool
is_escapable Label v = is_among (codes "[\\]") (code_of v)
is_escapable (Title both before after) v = escaped_between both before after (code_of v)
is_escapable Literal v = is_among (codes "<>\\") (code_of v)

-- what may not stand in it bare
abbrev pub is_refused : Text → ℕ → Bool
is_refused Label v = is_value (byte "[") (code_of v)
is_refused (Title both before after) v = is_bare_opener both before (code_of v)
is_refused Literal v = is_value (byte "<") (code_of v) || is_line_ending (code_of v)

-- the rest of a text; `slash` says that a backslash stands before that is not escaped
abbrev pub text_from : Text → Bool → Reading (List Code)
text_from t slash = escaped_from (λ c. c.value == closer t) (λ c. is_escapable t c.value) (λ c. is_refused t c.value) slash

-- the text up to what ends it
abbrev pub text_of : Text → Reading (List Code)
text_of t = text_from t false

-- what a code does to a text
abbrev pub DoesToText : Text → Bool → ℕ → Step → Type 0
DoesToText t slash v (Passes s) = (c : Code) (cs : List Code) → c.value ≡ v → text_from t slash (c ∷ cs) ≡ with_first c (text_from t s cs)
DoesToText t slash v Ends = ((v == closer t) ≡ true) × ((c : Code) (cs : List Code) → c.value ≡ v → text_from t slash (c ∷ cs) ≡ Some ([], c ∷ cs))
DoesToText t slash v Fails = (c : Code) (cs : List Code) → c.value ≡ v → text_from t slash (c ∷ cs) ≡ None

-- what a code does to a raw destination
abbrev pub DoesToRaw : Bool → ℕ → ℕ → RawStep → Type 0
DoesToRaw slash depth v (Goes s d) = (c : Code) (cs : List Code) → c.value ≡ v → raw_from 32 slash depth (c ∷ cs) ≡ with_first c (raw_from 32 s d cs)
DoesToRaw slash depth v Stops = (c : Code) (cs : List Code) → c.value ≡ v → raw_from 32 slash depth (c ∷ cs) ≡ Some ([], c ∷ cs)
DoesToRaw slash depth v Breaks = (c : Code) (cs : List Code) → c.value ≡ v → raw_from 32 slash depth (c ∷ cs) ≡ None

-- What is counted.

-- a code is no later column of a tab
abbrev pub is_first : Code → Bool
is_first c = c.start.vs == 0

abbrev pub firsts_of : List Code → List Bool
firsts_of [] = []
firsts_of (c ∷ cs) = is_first c ∷ firsts_of cs

-- the codes that are none
abbrev pub first_columns : List Code → List Code
first_columns cs = filter (λ c. not (is_later_column c)) cs
