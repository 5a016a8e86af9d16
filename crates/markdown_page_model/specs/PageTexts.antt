-- What some codes say where they are no inline content, and lines as HTML: code, HTML, info strings, and what definitions say (CommonMark 4.4 to 4.7).
use Rattle.std.specs.Prelude.{ℕ, Bool, not, ◌==◌, nat_lt, List, [], ◌∷◌, ◌++◌, length, codes, filter, flat_map, slice_range, if◌then◌else◌}
use Rattle.std.specs.Char.{is_ascii_whitespace}
use Rattle.std.specs.List.{slice_split}
use Rattle.markdown_content.specs.Codes.{Code, is_line_ending}
use Rattle.markdown_util.specs.Identifier.{is_nonempty}
use Rattle.markdown_model.specs.CodeTests.{values_of}
use Rattle.markdown_model.specs.Grammar.{span}
use Rattle.markdown_html_model.specs.Html.{Page, line_ending}
use Rattle.markdown_block_model.specs.LineRests.{is_blank_line}

-- a column of a tab, but not its first
abbrev pub is_later_column : Code → Bool
is_later_column c = nat_lt 0 c.start.vs

-- The text of some codes, as bytes. Of a tab that is cut, the columns that are left stand first, as spaces (2.2). Every other tab is a tab.
abbrev pub text_of : List Code → List ℕ
text_of cs = let s = span is_later_column cs in values_of s.0 ++ values_of (filter (λ c. not (is_later_column c)) s.1)

-- A line ending of the page's own is written as one of the text would be.
abbrev pub own_ending : Page → List ℕ
own_ending p = line_ending p.options.line_ends (codes "\n")

-- A line ending of code or of HTML, which is these bytes. One byte is written as LF, even where line endings are kept: a CR would join with the LF of an empty
-- line after it.
abbrev pub block_ending : Page → List ℕ → List ℕ
block_ending p bytes = line_ending p.options.line_ends (if length bytes == 1 then codes "\n" else bytes)

-- the line ending that these codes are; the page's own, where the document ends without one
abbrev pub ending : Page → List Code → List ℕ
ending p [] = own_ending p
ending p (c ∷ cs) = block_ending p (slice_range p.bytes c.start.index c.stop.index)

-- a line, whose text is written in this way
abbrev pub line_html : Page → (List ℕ → List ℕ) → List Code → List ℕ
line_html p written cs = let s = span (λ c. not (is_line_ending c)) cs in written (text_of s.0) ++ ending p s.1

abbrev pub lines_html : Page → (List ℕ → List ℕ) → List (List Code) → List ℕ
lines_html p written ls = flat_map (line_html p written) ls

-- Blank lines at the end are no part of indented code (4.4).

abbrev pub onto_filled : List Code → List (List Code) → List (List Code)
onto_filled l [] = if is_blank_line l then [] else l ∷ []
onto_filled l (k ∷ ls) = l ∷ k ∷ ls

abbrev pub filled : List (List Code) → List (List Code)
filled [] = []
filled (l ∷ ls) = onto_filled l (filled ls)

-- the first of some words, nothing where there is none
abbrev pub first_of_words : List (List ℕ) → List ℕ
first_of_words [] = []
first_of_words (w ∷ ws) = w

abbrev pub first_word : List ℕ → List ℕ
first_word text = first_of_words (filter is_nonempty (slice_split is_ascii_whitespace text))
