-- Lines, and the rest of a line: its codes from a place on (CommonMark 2.1 and 2.2). A tab is as many codes as it has columns, so a column is a code.
use Rattle.std.specs.Prelude.{ℕ, zero, suc, Bool, true, false, ◌||◌, List, [], ◌∷◌, length, Option, Some, None, if◌then◌else◌}
use Rattle.std.specs.List.{list_all}
use Rattle.markdown_content.specs.Codes.{Code, is_line_ending, is_blank}
use Rattle.markdown_model.specs.CodeTests.{is_value, is_empty, next_is, is_whitespace_code}
use Rattle.markdown_model.specs.Grammar.{span}

-- the lines of a document, each with its line ending
abbrev pub onto_line : Code → List (List Code) → List (List Code)
onto_line c [] = (c ∷ []) ∷ []
onto_line c (l ∷ ls) = if is_line_ending c then (c ∷ []) ∷ l ∷ ls else (c ∷ l) ∷ ls

abbrev pub lines_of : List Code → List (List Code)
lines_of [] = []
lines_of (c ∷ cs) = onto_line c (lines_of cs)

-- the columns that are blank before anything else
abbrev pub indent : List Code → ℕ
indent cs = length (span is_blank cs).0

-- behind its indent
abbrev pub trimmed : List Code → List Code
trimmed cs = (span is_blank cs).1

-- nothing but spaces and tabs stands before the line ending (2.1)
abbrev pub is_blank_line : List Code → Bool
is_blank_line cs = list_all is_whitespace_code cs

-- behind one column, if it is blank
abbrev pub past_blank : List Code → List Code
past_blank [] = []
past_blank (c ∷ cs) = if is_blank c then cs else c ∷ cs

-- behind so many columns, as far as they are blank
abbrev pub skip : ℕ → List Code → List Code
skip zero cs = cs
skip (suc n) cs = skip n (past_blank cs)

-- whitespace stands here, or the end
abbrev pub is_gap : List Code → Bool
is_gap cs = is_empty cs || next_is is_whitespace_code cs

-- how often the value stands first
abbrev pub count_first : ℕ → List Code → ℕ
count_first n cs = length (span (is_value n) cs).0

-- the first value, 0 where there is none
abbrev pub first_value : List Code → ℕ
first_value [] = 0
first_value (c ∷ cs) = c.value

-- without the codes at the end that pass
abbrev pub onto_end : (Code → Bool) → Code → List Code → List Code
onto_end p c [] = if p c then [] else c ∷ []
onto_end p c (d ∷ ds) = c ∷ d ∷ ds

abbrev pub without_end : (Code → Bool) → List Code → List Code
without_end p [] = []
without_end p (c ∷ cs) = onto_end p c (without_end p cs)

abbrev pub trimmed_end : List Code → List Code
trimmed_end cs = without_end is_whitespace_code cs

-- the value where the test holds, else none
abbrev pub only_if : {A : Type 0} → Bool → A → Option A
only_if true a = Some a
only_if false a = None
