-- Where on its line each block begins: the rest of the line from the block's first code on, which has that code's place. Of a blank line it is its line ending, or
-- nothing at the end of the document. Each word here says of one in BlockStarts and DocumentBlocks which blocks it brings, in their order.
use Rattle.std.specs.Prelude.{◌≡◌, ℕ, zero, suc, ◌+◌, Bool, true, false, List, [], ◌∷◌, ◌++◌, length, take, Option, Some, None, if◌then◌else◌}
use Rattle.markdown_content.specs.Codes.{Code}
use Rattle.markdown_block_model.specs.ByteOrderMark.{document_codes}
use Rattle.markdown_block_model.specs.LineRests.{lines_of, is_blank_line, trimmed}
use Rattle.markdown_block_model.specs.BlockTree.{Extensions, Leaf, paragraph, front_matter, Tree, nothing, and_leaf, and_container}
use Rattle.markdown_block_model.specs.BlockStarts.{Begun, leaf_begins, container_begins, begun}
use Rattle.markdown_block_model.specs.Tables.{table_at}
use Rattle.markdown_block_model.specs.FrontMatter.{matter_at}
use Rattle.markdown_block_model.specs.DocumentBlocks.{split_last, with_next, heading_level, rest_inside, is_lazy, read_line, blocks_of}
use Rattle.markdown_block_model.specs.BlockLines.{block_count}

abbrev pub found_brings : (List Code → List (List Code)) → List Code → Option Begun → List (List Code)
found_brings inner cs None = if is_blank_line cs then [] else trimmed cs ∷ []
found_brings inner cs (Some (leaf_begins l)) = trimmed cs ∷ []
found_brings inner cs (Some (container_begins c rest)) = trimmed cs ∷ inner rest

abbrev pub rest_brings : Extensions → ℕ → List Code → List (List Code)
rest_brings e zero cs = []
rest_brings e (suc n) cs = found_brings (λ rest. rest_brings e n rest) cs (begun e false false cs)

abbrev pub begun_brings : Extensions → List Code → Begun → List (List Code)
begun_brings e cs (leaf_begins l) = trimmed cs ∷ []
begun_brings e cs (container_begins c rest) = trimmed cs ∷ rest_brings e (suc (length rest)) rest

abbrev pub line_brings : Extensions → List Code → List (List Code)
line_brings e cs = if is_blank_line cs then trimmed cs ∷ [] else rest_brings e (suc (length cs)) cs

abbrev pub next_brings : Extensions → List Code → Option Leaf → List (List Code)
next_brings e cs (Some next) = []
next_brings e cs None = line_brings e cs

-- A table begins with its header. If the paragraph has lines before the header, it stays, and the table is a new block; else the table takes the paragraph's place.
abbrev pub header_brings : List Code × List Code → List (List Code)
header_brings ([], header) = []
header_brings (c ∷ cs, header) = header ∷ []

abbrev pub text_table_brings : List Code → Option Leaf → List (List Code)
text_table_brings text (Some t) = header_brings (split_last (lines_of text))
text_table_brings text None = []

abbrev pub text_begun_brings : Extensions → List Code → List Code → Option Begun → List (List Code)
text_begun_brings e cs text (Some b) = begun_brings e cs b
text_begun_brings e cs text None = text_table_brings text (if e.tables then table_at (split_last (lines_of text)).1 cs else None)

abbrev pub text_level_brings : Extensions → List Code → List Code → Option ℕ → List (List Code)
text_level_brings e cs text (Some level) = []
text_level_brings e cs text None = text_begun_brings e cs text (begun e true true cs)

abbrev pub text_line_brings : Extensions → (List Code → Bool) → List Code → List Code → List (List Code)
text_line_brings e has_text cs text = if is_blank_line cs then trimmed cs ∷ [] else text_level_brings e cs text (heading_level has_text cs text)

abbrev pub leaf_brings : Extensions → (List Code → Bool) → List Code → Leaf → List (List Code)
leaf_brings e has_text cs (paragraph text) = text_line_brings e has_text cs text
leaf_brings e has_text cs leaf = next_brings e cs (with_next e leaf cs)

abbrev pub inside_brings : Extensions → (List Code → List (List Code)) → List Code → Tree → Option (List Code) → List (List Code)
inside_brings e inner cs inside (Some rest) = inner rest
inside_brings e inner cs inside None = if is_lazy e cs inside then [] else line_brings e cs

-- the blocks that a line brings to a tree
abbrev pub read_brings : Extensions → (List Code → Bool) → List Code → Tree → List (List Code)
read_brings e has_text cs nothing = line_brings e cs
read_brings e has_text cs (and_leaf before leaf) = leaf_brings e has_text cs leaf
read_brings e has_text cs (and_container before c inside) = inside_brings e (λ rest. read_brings e has_text rest inside) cs inside (rest_inside c inside cs)

abbrev pub lines_bring : Extensions → (List Code → Bool) → List (List Code) → Tree → List (List Code)
lines_bring e has_text [] t = []
lines_bring e has_text (l ∷ ls) t = read_brings e has_text l t ++ lines_bring e has_text ls (read_line e has_text l t)

-- by the front matter, if there is some: it begins with the first line
abbrev pub begins_at_behind : Extensions → (List Code → Bool) → List (List Code) → Option (List (List Code) × List (List Code)) → List (List Code)
begins_at_behind e has_text ls None = lines_bring e has_text ls nothing
begins_at_behind e has_text ls (Some r) = take 1 ls ++ lines_bring e has_text r.1 (and_leaf nothing (front_matter r.0))

-- of a document's blocks, in its order
abbrev pub begins_at : Extensions → (List Code → Bool) → List ℕ → List (List Code)
begins_at e has_text bytes =
    let ls = lines_of (document_codes bytes) in
    begins_at_behind e has_text ls (if e.front_matter then matter_at ls else None)

-- each block that a line brings has its place, and so has each block of a document
pub record BlocksHavePlaces : Type 0 where
  pub lines : (e : Extensions) (has_text : List Code → Bool) (cs : List Code) (t : Tree)
      → block_count t + length (read_brings e has_text cs t) ≡ block_count (read_line e has_text cs t)
  pub document : (e : Extensions) (has_text : List Code → Bool) (bytes : List ℕ) → length (begins_at e has_text bytes) ≡ block_count (blocks_of e has_text bytes)
