-- On which line of the document each block begins, as the line's number from 1. No line takes a block away, and those that a line brings begin on it. The one
-- exception is a table, which begins on the line before: with its header.
use Rattle.std.specs.Prelude.{ℕ, suc, ◌+◌, ◌-◌, Bool, true, false, ◌&&◌, List, [], ◌∷◌, ◌++◌, length, replicate, Option, Some, None, if◌then◌else◌}
use Rattle.markdown_content.specs.Codes.{Code}
use Rattle.markdown_block_model.specs.ByteOrderMark.{document_codes}
use Rattle.markdown_block_model.specs.LineRests.{lines_of}
use Rattle.markdown_block_model.specs.BlockTree.{Extensions, table, front_matter, Tree, nothing, and_leaf, and_container}
use Rattle.markdown_block_model.specs.FrontMatter.{matter_at}
use Rattle.markdown_block_model.specs.DocumentBlocks.{read_line}

-- how many blocks a tree has, blank lines among them
abbrev pub block_count : Tree → ℕ
block_count nothing = 0
block_count (and_leaf before leaf) = suc (block_count before)
block_count (and_container before c inside) = suc (block_count before + block_count inside)

-- the newest leaf is a table with only a header
abbrev pub has_header_alone : List (List (List Code)) → Bool
has_header_alone [] = false
has_header_alone (row ∷ []) = true
has_header_alone (row ∷ k ∷ rows) = false

abbrev pub ends_in_header : Tree → Bool
ends_in_header nothing = false
ends_in_header (and_leaf before (table columns rows)) = has_header_alone rows
ends_in_header (and_leaf before leaf) = false
ends_in_header (and_container before c inside) = ends_in_header inside

-- of what lines bring to a tree, where the first of them has this number
abbrev pub begins_from : Extensions → (List Code → Bool) → ℕ → List (List Code) → Tree → List ℕ
begins_from e has_text number [] t = []
begins_from e has_text number (l ∷ ls) t =
    let next = read_line e has_text l t in
    replicate (block_count next - block_count t) (if e.tables && ends_in_header next then number - 1 else number) ++ begins_from e has_text (suc number) ls next

-- by the front matter, if there is some: it begins on the first line, and its two fences are lines too
abbrev pub begins_behind : Extensions → (List Code → Bool) → List (List Code) → Option (List (List Code) × List (List Code)) → List ℕ
begins_behind e has_text ls None = begins_from e has_text 1 ls nothing
begins_behind e has_text ls (Some r) = 1 ∷ begins_from e has_text (3 + length r.0) r.1 (and_leaf nothing (front_matter r.0))

-- of a document's blocks, in its order
abbrev pub begins_of : Extensions → (List Code → Bool) → List ℕ → List ℕ
begins_of e has_text bytes =
    let ls = lines_of (document_codes bytes) in
    begins_behind e has_text ls (if e.front_matter then matter_at ls else None)
