-- The leaves that begin with a line, but for HTML and paragraphs (CommonMark 4.1 to 4.3 and 4.5). Each word here reads the line behind its indent.
use Rattle.std.specs.Prelude.{ℕ, Bool, true, false, ◌&&◌, ◌||◌, not, nat_lt, nat_le, ◌==◌, List, [], length, drop, Option, Some, None, if◌then◌else◌}
use Rattle.std.specs.Str.{byte}
use Rattle.std.specs.List.{list_any, list_all, count_by}
use Rattle.markdown_content.specs.Codes.{Code, is_blank}
use Rattle.markdown_model.specs.CodeTests.{is_value, is_between, is_empty, is_whitespace_code}
use Rattle.markdown_block_model.specs.LineRests.{indent, trimmed, is_blank_line, is_gap, count_first, first_value, without_end, trimmed_end, only_if}
use Rattle.markdown_block_model.specs.BlockTree.{Extensions, Leaf, heading, fenced_code, Fence}

-- Thematic breaks (4.1): three or more of one marker, and nothing else but whitespace.

abbrev pub is_break_of : ℕ → List Code → Bool
is_break_of n cs = list_all (λ c. is_value n c || is_whitespace_code c) cs && nat_le 3 (count_by (is_value n) cs)

abbrev pub is_break : List Code → Bool
is_break cs = is_break_of (byte "*") cs || is_break_of (byte "-") cs || is_break_of (byte "_") cs

-- ATX headings (4.2): one to six `#`, and whitespace or the end behind them. The markers that close it stand behind a blank, or alone.

abbrev pub ends_blank : List Code → Bool
ends_blank cs = is_empty cs || not (length (without_end is_blank cs) == length cs)

-- `open_part` is the text without the markers at its end
abbrev pub without_closing : List Code → List Code → List Code
without_closing open_part cs = if ends_blank open_part then trimmed_end open_part else cs

abbrev pub heading_text : List Code → List Code
heading_text cs = without_closing (without_end (is_value (byte "#")) cs) cs

-- `inside` is what stands behind the markers
abbrev pub heading_of : ℕ → List Code → Option Leaf
heading_of level inside = only_if (is_between 1 6 level && is_gap inside) (heading level (heading_text (trimmed_end (trimmed inside))))

abbrev pub heading_at : List Code → Option Leaf
heading_at cs = heading_of (count_first (byte "#") cs) (drop (count_first (byte "#") cs) cs)

-- Setext headings (4.3): a row of `=` or of `-` is the underline; its level.

abbrev pub is_row_of : ℕ → List Code → Bool
is_row_of n cs = nat_le 1 (count_first n cs) && is_blank_line (drop (count_first n cs) cs)

-- by whether the row is one of `=`, and whether it is one of `-`
abbrev pub level_of : Bool → Bool → Option ℕ
level_of true minus = Some 1
level_of false minus = only_if minus 2

-- the level of the heading that a whole line underlines
abbrev pub underline : List Code → Option ℕ
underline cs = if nat_lt (indent cs) 4 then level_of (is_row_of (byte "=") (trimmed cs)) (is_row_of (byte "-") (trimmed cs)) else None

-- Fenced code blocks (4.5): three or more grave accents or tildes, and the info string, which behind grave accents has none of them. Math, as in the crate
-- `markdown`, has fences of two or more dollar signs, and no dollar sign in its info string.

abbrev pub may_be_info : Extensions → ℕ → List Code → Bool
may_be_info e n cs = n == byte "~" || ((n == byte "`" || (e.math && n == byte "$")) && not (list_any (is_value n) cs))

-- how long a fence is at least
abbrev pub fence_least : ℕ → ℕ
fence_least n = if n == byte "$" then 2 else 3

abbrev pub fence_of : Extensions → ℕ → ℕ → ℕ → List Code → Option Leaf
fence_of e columns n count info =
    only_if (nat_le (fence_least n) count && may_be_info e n info) (fenced_code (record { value = n; count = count; columns = columns }) (trimmed_end (trimmed info)) [] false)

-- `columns` is the indent
abbrev pub fence_at : Extensions → ℕ → List Code → Option Leaf
fence_at e columns cs = fence_of e columns (first_value cs) (count_first (first_value cs) cs) (drop (count_first (first_value cs) cs) cs)

-- a whole line ends the code: as many of the value at least, and nothing else
abbrev pub is_closing : Fence → List Code → Bool
is_closing f cs =
    nat_lt (indent cs) 4 && (nat_le f.count (count_first f.value (trimmed cs)) && is_blank_line (drop (count_first f.value (trimmed cs)) (trimmed cs)))
