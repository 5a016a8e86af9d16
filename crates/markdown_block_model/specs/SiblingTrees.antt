-- Siblings behind siblings: what a document's first lines make, and behind it what further lines make.
use Rattle.std.specs.Prelude.{◌≡◌, ℕ, suc, Bool, false, ◌&&◌, List, ◌∷◌, ◌++◌}
use Rattle.markdown_content.specs.Codes.{Code}
use Rattle.markdown_block_model.specs.BlockTree.{Extensions, Tree, nothing, and_leaf, and_container}
use Rattle.markdown_block_model.specs.DocumentBlocks.{is_nothing, read_line, read_lines}
use Rattle.markdown_block_model.specs.BlockLines.{ends_in_header}
use Rattle.markdown_block_model.specs.LinkDefinitions.{resolved, definitions_within}

-- the second ones behind the first
abbrev pub joined : Tree → Tree → Tree
joined first nothing = first
joined first (and_leaf before leaf) = and_leaf (joined first before) leaf
joined first (and_container before c inside) = and_container (joined first before) c inside

-- Lines on siblings leave those before the newest one as they are: so where some stand behind others, the lines make of them what they would alone.
abbrev pub SiblingsStand : Type 0
SiblingsStand =
    (e : Extensions) (has_text : List Code → Bool) (ls : List (List Code)) (first second : Tree) → is_nothing second ≡ false
    → read_lines e has_text ls (joined first second) ≡ joined first (read_lines e has_text ls second)

-- the same of definitions: they are those of the first, and then those of the second
pub record DefinitionsStand : Type 0 where
  pub trees : (first second : Tree) → resolved (joined first second) ≡ joined (resolved first) (resolved second)
  pub definitions : (first second : Tree) → definitions_within (joined first second) ≡ definitions_within first ++ definitions_within second

-- how many siblings
abbrev pub sibling_count : Tree → ℕ
sibling_count nothing = 0
sibling_count (and_leaf before leaf) = suc (sibling_count before)
sibling_count (and_container before c inside) = suc (sibling_count before)

-- A line that puts one more behind siblings makes there what it would make of nothing: what stands before does not matter. A table is the one exception, since
-- it takes the last line of a paragraph: the third line of `a` LF `b` LF `:-` makes a table with the header `b` and leaves the paragraph `a`.
abbrev pub BeginsAlone : Type 0
BeginsAlone =
    (e : Extensions) (has_text : List Code → Bool) (l : List Code) (first : Tree) → sibling_count (read_line e has_text l first) ≡ suc (sibling_count first)
    → (e.tables && ends_in_header (read_line e has_text l first)) ≡ false
    → read_line e has_text l first ≡ joined first (read_line e has_text l nothing)

-- So lines that begin so are behind other lines what they are alone. A document is its lines read so, but for front matter: alone `---` LF `---` is front matter.
abbrev pub LinesStandAlone : Type 0
LinesStandAlone =
    (e : Extensions) (has_text : List Code → Bool) (before ls : List (List Code)) (l : List Code)
    → sibling_count (read_line e has_text l (read_lines e has_text before nothing)) ≡ suc (sibling_count (read_lines e has_text before nothing))
    → (e.tables && ends_in_header (read_line e has_text l (read_lines e has_text before nothing))) ≡ false
    → read_lines e has_text (before ++ l ∷ ls) nothing ≡ joined (read_lines e has_text before nothing) (read_lines e has_text (l ∷ ls) nothing)
