-- Tables (GFM 4.10): a header row, a delimiter row with the same number of cells, and further rows, up to a blank line or the start of another block.
use Rattle.std.specs.Prelude.{ℕ, Bool, true, false, ◌&&◌, not, nat_lt, nat_le, ◌==◌, List, [], ◌∷◌, ◌++◌, length, drop, map, Option, Some, None, if◌then◌else◌}
use Rattle.std.specs.Str.{byte}
use Rattle.std.specs.List.{list_all}
use Rattle.markdown_content.specs.Codes.{Code}
use Rattle.markdown_model.specs.CodeTests.{is_value, is_empty, next_is}
use Rattle.markdown_block_model.specs.LineRests.{indent, trimmed, is_blank_line, count_first, trimmed_end, only_if}
use Rattle.markdown_block_model.specs.BlockTree.{Alignment, unaligned, left, right, center, Leaf, table}

-- Rows: cells separated by pipes, with optional pipes before the first and after the last. A pipe right after a backslash separates no cells, and both stay in the
-- text of the cell, where they are an escape.

abbrev pub onto_part : Code → List (List Code) → List (List Code)
onto_part c [] = (c ∷ []) ∷ []
onto_part c (p ∷ ps) = (c ∷ p) ∷ ps

-- the parts between pipes; `escaped` says that the code before is a backslash
abbrev pub parts_of : Bool → List Code → List (List Code)
parts_of escaped [] = [] ∷ []
parts_of escaped (c ∷ cs) =
    if is_value (byte "|") c && not escaped then [] ∷ parts_of false cs
    else onto_part c (parts_of (is_value (byte "\\") c) cs)

-- without the first code, if it has this value
abbrev pub after_one : ℕ → List Code → List Code
after_one n cs = drop (if next_is (is_value n) cs then 1 else 0) cs

-- without the last part, if it is blank: a pipe that ends the row has no cell after it
abbrev pub without_blank_end : List (List Code) → List (List Code)
without_blank_end [] = []
without_blank_end (p ∷ []) = if is_blank_line p then [] else p ∷ []
without_blank_end (p ∷ q ∷ ps) = p ∷ without_blank_end (q ∷ ps)

-- the text of a cell, without the whitespace around it
abbrev pub cell_text : List Code → List Code
cell_text part = trimmed_end (trimmed part)

-- the cells of a line
abbrev pub cells_of : List Code → List (List Code)
cells_of cs = map cell_text (without_blank_end (parts_of false (after_one (byte "|") (trimmed cs))))

-- Delimiters: one or more hyphens, with an optional colon before them, after them or both, which says how the column is aligned.

abbrev pub after_hyphens : List Code → List Code
after_hyphens cs = drop (count_first (byte "-") cs) cs

-- `inside` is the delimiter without its first colon
abbrev pub is_hyphens : List Code → Bool
is_hyphens inside = nat_le 1 (count_first (byte "-") inside) && is_empty (after_one (byte ":") (after_hyphens inside))

abbrev pub is_delimiter : List Code → Bool
is_delimiter cs = is_hyphens (after_one (byte ":") cs)

-- by whether a colon is before the hyphens, and whether one is after them
abbrev pub alignment_by : Bool → Bool → Alignment
alignment_by false false = unaligned
alignment_by false true = right
alignment_by true false = left
alignment_by true true = center

abbrev pub alignment_of : List Code → Alignment
alignment_of cs = alignment_by (next_is (is_value (byte ":")) cs) (next_is (is_value (byte ":")) (after_hyphens (after_one (byte ":") cs)))

-- Tables.

-- the table with these cells as its header; the delimiter row has to match it in the number of cells
abbrev pub table_of : List (List Code) → List (List Code) → Option Leaf
table_of header delimiters =
    only_if (nat_le 1 (length header) && (list_all is_delimiter delimiters && length header == length delimiters)) (table (map alignment_of delimiters) (header ∷ []))

-- the table that a delimiter row begins, with the line before it as the header
abbrev pub table_at : List Code → List Code → Option Leaf
table_at line cs = if nat_lt (indent cs) 4 then table_of (cells_of line) (cells_of cs) else None

-- A row has as many cells as the header: excess cells are ignored, and empty cells are added for those that are missing.
abbrev pub fitted : List Alignment → List (List Code) → List (List Code)
fitted [] cells = []
fitted (a ∷ columns) [] = [] ∷ fitted columns []
fitted (a ∷ columns) (c ∷ cells) = c ∷ fitted columns cells

-- the table with one more row; a line without cells is none
abbrev pub with_cells : List Alignment → List (List (List Code)) → List (List Code) → Option Leaf
with_cells columns rows [] = None
with_cells columns rows (c ∷ cells) = Some (table columns (rows ++ (fitted columns (c ∷ cells) ∷ [])))
