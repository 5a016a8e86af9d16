-- The containers that begin with a line (CommonMark 5.1 and 5.2, and footnote definitions), each with the rest of the line inside it.
use Rattle.std.specs.Prelude.{ℕ, ◌+◌, ◌-◌, ◌*◌, Bool, true, false, ◌&&◌, ◌||◌, not, nat_lt, nat_le, ◌==◌, List, [], ◌∷◌, length, drop, Option, Some, None, if◌then◌else◌}
use Rattle.std.specs.Str.{byte}
use Rattle.markdown_content.specs.Codes.{Code}
use Rattle.markdown_model.specs.CodeTests.{is_value, is_between, is_empty, next_is, is_digit, is_whitespace_code, values_of}
use Rattle.markdown_model.specs.Grammar.{span}
use Rattle.markdown_model.specs.LabelEnd.{is_too_long}
use Rattle.markdown_block_model.specs.LineRests.{indent, trimmed, is_blank_line, skip, is_gap, first_value, only_if}
use Rattle.markdown_block_model.specs.BlockTree.{Marker, bullet, ordered, Container, quote, item, footnote}

-- Block quotes (5.1): `>` behind three columns at most, and one column more if it is blank.

abbrev pub behind_quote : List Code → Option (List Code)
behind_quote cs = only_if (nat_lt (indent cs) 4 && next_is (is_value (byte ">")) (trimmed cs)) (skip 1 (drop 1 (trimmed cs)))

abbrev pub in_quote : Option (List Code) → Option (Container × List Code)
in_quote None = None
in_quote (Some rest) = Some (quote, rest)

abbrev pub quote_at : List Code → Option (Container × List Code)
quote_at cs = in_quote (behind_quote cs)

-- Footnote definitions, as on GitHub: `[^`, a label, and `]:`. A label has no whitespace, and a bracket in it has to be escaped. The spaces and tabs after the
-- colon are part of the marker.

-- a label's codes, as far as they go, and the rest of the line; `taken` says that the first code is escaped by the backslash before it
abbrev pub onto_label : Code → List Code × List Code → List Code × List Code
onto_label c r = (c ∷ r.0, r.1)

abbrev pub ends_label : Bool → Code → Bool
ends_label taken c = is_whitespace_code c || (not taken && (is_value (byte "[") c || is_value (byte "]") c))

abbrev pub label_from : Bool → List Code → List Code × List Code
label_from taken [] = ([], [])
label_from taken (c ∷ cs) = if ends_label taken c then ([], c ∷ cs) else onto_label c (label_from (not taken && is_value (byte "\\") c) cs)

-- `found` is the label and the rest of the line: the label is closed, and neither empty nor too long (at most 999 characters, as in CommonMark 6.3)
abbrev pub is_closed_label : List Code × List Code → Bool
is_closed_label found =
    (next_is (is_value (byte "]")) found.1 && next_is (is_value (byte ":")) (drop 1 found.1)) && not (is_empty found.0 || is_too_long (values_of found.0))

abbrev pub footnote_if : Bool → List Code × List Code → Option (Container × List Code)
footnote_if begins found = only_if (begins && is_closed_label found) (footnote found.0, trimmed (drop 2 found.1))

-- the definition that begins after an indent
abbrev pub footnote_at : List Code → Option (Container × List Code)
footnote_at cs = footnote_if (next_is (is_value (byte "[")) cs && next_is (is_value (byte "^")) (drop 1 cs)) (label_from false (drop 2 cs))

-- List items (5.2): a marker, and whitespace or the end behind it.

abbrev pub number_from : ℕ → List Code → ℕ
number_from n [] = n
number_from n (c ∷ cs) = number_from (n * 10 + (c.value - byte "0")) cs

-- the marker that stands first, and how long it is
abbrev pub bullet_at : List Code → Option (Marker × ℕ)
bullet_at cs = only_if (first_value cs == byte "-" || (first_value cs == byte "+" || first_value cs == byte "*")) (bullet (first_value cs), 1)

-- one to nine digits, and a delimiter
abbrev pub ordered_of : List Code → ℕ → Option (Marker × ℕ)
ordered_of digits n = only_if (is_between 1 9 (length digits) && (n == byte "." || n == byte ")")) (ordered n (number_from 0 digits), length digits + 1)

abbrev pub ordered_at : List Code → Option (Marker × ℕ)
ordered_at cs = ordered_of (span is_digit cs).0 (first_value (span is_digit cs).1)

abbrev pub or_else : {A : Type 0} → Option A → Option A → Option A
or_else None b = b
or_else (Some a) b = Some a

abbrev pub marker_at : List Code → Option (Marker × ℕ)
marker_at cs = or_else (bullet_at cs) (ordered_at cs)

-- which markers may interrupt a paragraph
abbrev pub may_interrupt : Marker → Bool
may_interrupt (bullet n) = true
may_interrupt (ordered n start) = start == 1

-- how many columns behind the marker belong to it: those up to the content, but one where five or more are blank, or all
abbrev pub padding : List Code → ℕ
padding after = if is_blank_line after || nat_le 5 (indent after) then 1 else indent after

-- an item whose marker is so long, and what stands behind that; `in_paragraph` says that the item would interrupt a paragraph
abbrev pub may_begin : Bool → Marker → List Code → Bool
may_begin in_paragraph marker after = is_gap after && not (in_paragraph && (is_blank_line after || not (may_interrupt marker)))

abbrev pub item_of : Bool → ℕ → Marker → ℕ → List Code → Option (Container × List Code)
item_of in_paragraph columns marker count after =
    only_if (may_begin in_paragraph marker after) (item marker (columns + count + padding after), skip (padding after) after)

abbrev pub item_by : Bool → ℕ → List Code → Option (Marker × ℕ) → Option (Container × List Code)
item_by in_paragraph columns cs None = None
item_by in_paragraph columns cs (Some m) = item_of in_paragraph columns m.0 m.1 (drop m.1 cs)

-- the item that begins behind an indent of so many columns
abbrev pub item_at : Bool → ℕ → List Code → Option (Container × List Code)
item_at in_paragraph columns cs = item_by in_paragraph columns cs (marker_at cs)
