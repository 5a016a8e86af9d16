-- A table as one text, for the search of a name in it.
use Rattle.std.specs.Prelude.{◌≡◌, ◌≢◌, ◌⊎◌, ℕ, ◌-◌, ◌<◌, get_or, Bool, not, ◌&&◌, ◌==◌, List, [], ◌∷◌, ◌++◌, All, IsTrue}
use Rattle.std.specs.Str.{byte}
use Rattle.std.specs.List.{list_all}
use Rattle.markdown_util.specs.declared.util.constant.TheConstants.{HTML_LINES}
use Rattle.markdown_util.specs.Reference.{Table, is_sorted}

-- a line: its name, a `;`, its text and a space
abbrev pub line_text : List ℕ × List ℕ → List ℕ
line_text row = row.0 ++ (byte ";" ∷ (row.1 ++ (byte " " ∷ [])))

abbrev pub table_text : Table → List ℕ
table_text [] = []
table_text (row ∷ rows) = line_text row ++ table_text rows

abbrev pub lacks : ℕ → List ℕ → Bool
lacks b xs = list_all (λ x. not (x == b)) xs

-- no `;` stands in the name, and a space neither in the name nor in the text
abbrev pub is_parted : List ℕ × List ℕ → Bool
is_parted row = lacks (byte ";") row.0 && (lacks (byte " ") row.0 && lacks (byte " ") row.1)

-- the text of lines that can be told apart in it
pub record IsTableText (rows : Table) (text : List ℕ) : Type 0 where
  pub is : text ≡ table_text rows
  pub parted : IsTrue (list_all is_parted rows)

-- and these lines stand in the order of their names
pub record IsSortedText (rows : Table) (text : List ℕ) : Type 0 where
  pub lines : IsTableText rows text
  pub sorted : IsTrue (is_sorted rows)

-- the lines of HTML, as a program holds them
unfoldable pub html_text : List ℕ
html_text = HTML_LINES.now

-- a line may start here: at the front, or behind a space
abbrev pub StartsLine : List ℕ → ℕ → Type 0
StartsLine text at = (at ≡ 0) ⊎ ((0 < at) × (get_or text (at - 1) 0 ≡ byte " "))

-- what stands before the first such byte, and behind it
pub record IsSplitAtByte (b : ℕ) (text before behind : List ℕ) : Type 0 where
  pub is : text ≡ before ++ (b ∷ behind)
  pub first : All (λ x. x ≢ b) before

-- a line among others, which stand before it and behind it
pub record IsLineOf (rows : Table) (before name text behind : List ℕ) : Type 0 where
  pub low : Table
  pub high : Table
  pub is : rows ≡ low ++ ((name, text) ∷ high)
  pub before_text : before ≡ table_text low
  pub behind_text : behind ≡ table_text high
