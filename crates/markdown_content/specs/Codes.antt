-- The codes of a document, each with its places.
use Rattle.std.specs.Prelude.{ℕ, zero, suc, ◌+◌, ◌-◌, ◌%◌, Bool, true, false, ◌&&◌, ◌||◌, nat_lt, nat_le, ◌==◌, List, [], ◌∷◌, ◌++◌, if◌then◌else◌, filter}
use Rattle.std.specs.List.{count_by, list_any}
use Rattle.markdown_event.specs.declared.event.Point.{Point}

-- A code is what the rules of Markdown read one of: a byte, or the line feed that stands for a line
-- ending (CommonMark 2.1: LF, CR, or CR LF), or a column of a tab (CommonMark 2.2). It stands from the
-- place before it to the place after it.
pub record Code : Type 0 where
  pub value : ℕ
  pub start : Point
  pub stop : Point

abbrev pub tab_value : ℕ
tab_value = 9

abbrev pub line_feed : ℕ
line_feed = 10

abbrev pub carriage_return : ℕ
carriage_return = 13

abbrev pub space_value : ℕ
space_value = 32

-- the start of a line
abbrev pub line_start : ℕ → ℕ → Point
line_start n i = record { line = n; column = 1; index = i; vs = 0 }

abbrev pub document_start : Point
document_start = line_start 1 0

-- the place one column further on, at this index, after so many codes of the tab there
abbrev pub next_column : Point → ℕ → ℕ → Point
next_column p i inside = record { line = p.line; column = p.column + 1; index = i; vs = inside }

-- Tabs (CommonMark 2.2): a tab reaches to the next tab stop; stops are 4 columns apart.

abbrev pub tab_width : Point → ℕ
tab_width p = 4 - (p.column - 1) % 4

-- a code of a tab, and the n virtual spaces of that tab that follow
abbrev pub codes_of_tab : ℕ → ℕ → Point → List Code
codes_of_tab v zero p = record { value = v; start = p; stop = next_column p (p.index + 1) 0 } ∷ []
codes_of_tab v (suc n) p =
    let q = next_column p p.index (p.vs + 1) in
    record { value = v; start = p; stop = q } ∷ codes_of_tab space_value n q

-- Line endings (CommonMark 2.1).

abbrev pub is_line_ending_byte : ℕ → Bool
is_line_ending_byte b = b == line_feed || b == carriage_return

-- the bytes of a line ending: a carriage return takes the line feed after it
abbrev pub line_ending_len : ℕ → List ℕ → ℕ
line_ending_len b (c ∷ rest) = if b == carriage_return && c == line_feed then 2 else 1
line_ending_len b [] = 1

-- the codes that begin at a byte
abbrev pub codes_of_byte : Point → ℕ → List ℕ → List Code
codes_of_byte p b rest =
    if is_line_ending_byte b
    then record { value = line_feed; start = p; stop = line_start (p.line + 1) (p.index + line_ending_len b rest) } ∷ []
    else (if b == tab_value
    then codes_of_tab tab_value (tab_width p - 1) p
    else record { value = b; start = p; stop = next_column p (p.index + 1) 0 } ∷ [])

-- the place after some codes that begin here
abbrev pub stop_of : Point → List Code → Point
stop_of p [] = p
stop_of p (c ∷ cs) = stop_of c.stop cs

-- the codes of the bytes from a place on, after a byte; the line feed of a CR LF belongs to the code before
abbrev pub codes_from : ℕ → Point → List ℕ → List Code
codes_from before p [] = []
codes_from before p (b ∷ rest) =
    elim (before == carriage_return && b == line_feed) [
      | true ↦ codes_from b p rest
      | false ↦ let here = codes_of_byte p b rest in here ++ codes_from b (stop_of p here) rest
    ]

-- all codes of a document
abbrev pub codes_of : List ℕ → List Code
codes_of bytes = codes_from 0 document_start bytes

-- Places, by index and codes of the tab there.

-- the second stands at the first or after it
abbrev pub is_at_or_after : ℕ × ℕ → ℕ × ℕ → Bool
is_at_or_after low at = nat_lt low.0 at.0 || (low.0 == at.0 && nat_le low.1 at.1)

abbrev pub place_of : Point → ℕ × ℕ
place_of p = (p.index, p.vs)

-- the code begins before the place
abbrev pub is_code_before : ℕ × ℕ → Code → Bool
is_code_before at c = nat_lt c.start.index at.0 || (c.start.index == at.0 && nat_lt c.start.vs at.1)

-- the place of this index and codes of the tab there, with its line and column: where the codes before it end
abbrev pub point_at : List ℕ → ℕ × ℕ → Point
point_at bytes at = stop_of document_start (filter (is_code_before at) (codes_of bytes))

-- Tests on one code.

abbrev pub is_line_ending : Code → Bool
is_line_ending c = c.value == line_feed

-- a space, a tab, or a column of a tab
abbrev pub is_blank : Code → Bool
is_blank c = c.value == space_value || c.value == tab_value

-- how many of the codes are among these bytes
abbrev pub count_among : List ℕ → List Code → ℕ
count_among set cs = count_by (λ c. list_any (λ n. c.value == n) set) cs
