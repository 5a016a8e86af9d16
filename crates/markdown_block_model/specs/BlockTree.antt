-- The tree of blocks (CommonMark 3.2, 4 and 5, and GFM 4.10; footnote definitions as on GitHub, math and front matter as in the crate `markdown`).
use Rattle.std.specs.Prelude.{ℕ, Bool, false, List}
use Rattle.markdown_content.specs.Codes.{Code}

-- the marker of a list item: a bullet's value; the delimiter and the number of an ordered one (5.2)
pub data Marker : Type 0 where
  bullet : ℕ → Marker
  ordered : ℕ → ℕ → Marker

-- what holds blocks; of an item also the columns that its further lines are indented by (5.1, 5.2); of a footnote definition its label
pub data Container : Type 0 where
  quote : Container
  item : Marker → ℕ → Container
  footnote : List Code → Container

-- how the cells of a column are aligned (GFM 4.10)
pub data Alignment : Type 0 where
  unaligned : Alignment
  left : Alignment
  right : Alignment
  center : Alignment

-- how code is fenced: the value, how often it stands, and the columns before it (4.5)
pub record Fence : Type 0 where
  pub value : ℕ
  pub count : ℕ
  pub columns : ℕ

-- What holds no blocks (4). A blank line is one. A heading has its level and its text, and so has a paragraph that an underline made a heading. Fenced
-- code has its info string and its lines, HTML its kind and its lines; the Bool says that they are ended, so that no line goes on with them. A table has its
-- columns and its rows, the header first; a row is the texts of its cells. Front matter has its lines, without the fences.
pub data Leaf : Type 0 where
  blank : Leaf
  thematic_break : Leaf
  heading : ℕ → List Code → Leaf
  underlined : ℕ → List Code → Leaf
  paragraph : List Code → Leaf
  indented_code : List (List Code) → Leaf
  fenced_code : Fence → List Code → List (List Code) → Bool → Leaf
  html : ℕ → List Code → Bool → Leaf
  table : List Alignment → List (List (List Code)) → Leaf
  front_matter : List (List Code) → Leaf

-- which blocks are read in addition to those of CommonMark
pub record Extensions : Type 0 where
  pub tables : Bool
  pub footnotes : Bool
  pub math : Bool
  pub front_matter : Bool

-- CommonMark alone
abbrev pub no_extensions : Extensions
no_extensions = record { tables = false; footnotes = false; math = false; front_matter = false }

-- Siblings, the newest last. A container holds what is inside it.
pub data Tree : Type 0 where
  nothing : Tree
  and_leaf : Tree → Leaf → Tree
  and_container : Tree → Container → Tree → Tree
