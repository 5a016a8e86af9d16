-- What rows of blocks, and the open ones, mean.
use Rattle.std.specs.Prelude.{ℕ, zero, suc, ◌≡◌, ◌<◌, ◌≤◌, ◌+◌, List, [], ◌∷◌, ◌++◌, length, map, take, drop, MatchOption, Option, Some, None, is_some, Bool, true, false, if◌then◌else◌}
use Rattle.markdown_content.specs.Codes.{Code, codes_of}
use Rattle.markdown_content.specs.Content.{piece_codes, content_of}
use Rattle.markdown_block_model.specs.LineRests.{is_blank_line, trimmed, trimmed_end}
use Rattle.markdown_block_model.specs.BlockTree as model
use Rattle.markdown_block_model.specs.BlockTree.{Tree, nothing, and_leaf, and_container}
use Rattle.markdown_block_model.specs.BlockStarts as block_starts
use Rattle.markdown_block_model.specs.DocumentBlocks as document_blocks
use Rattle.markdown_block_line.specs.LineBlocks.{extensions_of, container_of, fence_of}
use Rattle.markdown_block_line.specs.declared.containers.Container.{Container}
use Rattle.markdown_block_line.specs.declared.extensions.Extensions.{Extensions}
use Rattle.markdown_blocks.specs.TreeDepth.{spine, inside_at, at_depth}
use Rattle.markdown_blocks.specs.declared.block.Leaf.{Leaf}
use Rattle.markdown_blocks.specs.declared.block.Leaf.TheVariants.{Blank, ThematicBreak, Heading, Underlined, Paragraph, IndentedCode, FencedCode, Html, FrontMatter}
use Rattle.markdown_blocks.specs.declared.block.Row.{Row}
use Rattle.markdown_blocks.specs.declared.block.Row.TheVariants.{LeafAt, ContainerAt}
use Rattle.markdown_blocks.specs.declared.reader.Reader.{Reader}
use Rattle.markdown_blocks.specs.declared.block.Blocks.{Blocks}
use Rattle.markdown_blocks.specs.declared.leaves.Next.{Next}
use Rattle.markdown_blocks.specs.declared.leaves.Next.TheVariants.{WithLine, Without}

-- a leaf of a document: its texts are the contents of their pieces, and a line of code is one piece
abbrev pub leaf_of : List ℕ → Leaf → model.Leaf
leaf_of bytes Blank = model.blank
leaf_of bytes ThematicBreak = model.thematic_break
leaf_of bytes (Heading n text) = model.heading n (piece_codes (codes_of bytes) text)
leaf_of bytes (Underlined n text) = model.underlined n (trimmed_end (content_of bytes text.items))
leaf_of bytes (Paragraph text) = model.paragraph (content_of bytes text.items)
leaf_of bytes (IndentedCode ls) = model.indented_code (map (piece_codes (codes_of bytes)) ls.items)
leaf_of bytes (FencedCode f info ls ended) = model.fenced_code (fence_of f) (piece_codes (codes_of bytes) info) (map (piece_codes (codes_of bytes)) ls.items) ended
leaf_of bytes (Html k text ended) = model.html k (content_of bytes text.items) ended
leaf_of bytes (FrontMatter ls) = model.front_matter (map (piece_codes (codes_of bytes)) ls.items)

-- the tree with a row more
abbrev pub with_row : List ℕ → Row → Tree → Tree
with_row bytes (LeafAt d l) t = at_depth d (λ s. and_leaf s (leaf_of bytes l)) t
with_row bytes (ContainerAt d c) t = at_depth d (λ s. and_container s (container_of c) nothing) t

abbrev pub rows_from : List ℕ → Tree → List Row → Tree
rows_from bytes t [] = t
rows_from bytes t (r ∷ rs) = rows_from bytes (with_row bytes r t) rs

-- the tree of the blocks of a document
abbrev pub tree_of : List ℕ → Blocks → Tree
tree_of bytes b = rows_from bytes nothing b.rows.items

-- What a reader has.

-- the tree of the closed blocks
abbrev pub closed_tree : List ℕ → Reader → Tree
closed_tree bytes r = rows_from bytes nothing r.rows.items

abbrev pub depth : Reader → ℕ
depth r = length r.path

abbrev pub container_in : ℕ → List Container → model.Container
container_in n [] = model.quote
container_in zero (c ∷ cs) = container_of c
container_in (suc n) (c ∷ cs) = container_in n cs

abbrev pub container_at : ℕ → Reader → model.Container
container_at n r = container_in n r.path

abbrev pub with_open : List ℕ → ℕ → Option Leaf → Tree → Tree
with_open bytes n None t = t
with_open bytes n (Some l) t = at_depth n (λ s. and_leaf s (leaf_of bytes l)) t

-- the tree of all blocks that are read
abbrev pub whole_tree : List ℕ → Reader → Tree
whole_tree bytes r = with_open bytes (depth r) r.open (closed_tree bytes r)

-- how many these are
abbrev pub row_count : Reader → ℕ
row_count r = length r.rows.items + (if is_some r.open then 1 else 0)

-- the containers of the path are the outermost of the newest ones
pub record IsNewestPath (bytes : List ℕ) (r : Reader) : Type 0 where
  pub front : take (depth r) (spine (closed_tree bytes r)) ≡ map container_of r.path

-- between two lines: where no leaf is open, the innermost container of the path holds nothing
pub record IsBetween (bytes : List ℕ) (r : Reader) : Type 0 where
  pub is_front : IsNewestPath bytes r
  pub empty : r.open ≡ None → inside_at (depth r) (closed_tree bytes r) ≡ nothing

-- no leaf is open
pub record IsStanding (bytes : List ℕ) (r : Reader) : Type 0 where
  pub is_front : IsNewestPath bytes r
  pub open_none : r.open ≡ None

-- What a line makes of it.

-- what a leaf becomes with a further line
abbrev pub Continues : Extensions → List ℕ → Leaf → List Code → Next → Type 0
Continues ext bytes l cs (WithLine next) = document_blocks.with_next (extensions_of ext) (leaf_of bytes l) cs ≡ Some (leaf_of bytes next)
Continues ext bytes l cs (Without same) = (document_blocks.with_next (extensions_of ext) (leaf_of bytes l) cs ≡ None) × (same ≡ l)

-- a leaf has begun
pub record HasLeaf (bytes : List ℕ) (begun : block_starts.Begun) (before after : Reader) : Type 0 where
  pub leaf : model.Leaf
  pub is : begun ≡ block_starts.leaf_begins leaf
  pub tree : whole_tree bytes after ≡ at_depth (depth before) (λ s. and_leaf s leaf) (closed_tree bytes before)
  pub between : IsBetween bytes after

-- a container is opened, which holds nothing yet
pub record IsDeeper (bytes : List ℕ) (container : model.Container) (before after : Reader) : Type 0 where
  pub tree : closed_tree bytes after ≡ at_depth (depth before) (λ s. and_container s container nothing) (closed_tree bytes before)
  pub deeper : depth after ≡ suc (depth before)
  pub standing : IsStanding bytes after
  pub empty : inside_at (depth after) (closed_tree bytes after) ≡ nothing

-- a container has begun
pub record HasContainer (bytes : List ℕ) (begun : block_starts.Begun) (rest : List Code) (before after : Reader) : Type 0 where
  pub container : model.Container
  pub is : begun ≡ block_starts.container_begins container rest
  pub deeper : IsDeeper bytes container before after

-- what has begun: a leaf, or a container outside of which so many codes stand
abbrev pub HasBegun : List ℕ → block_starts.Begun → List Code → Option ℕ → Reader → Reader → Type 0
HasBegun bytes begun line outside before after = MatchOption outside (HasLeaf bytes begun before after)
    (λ k. (0 < k) × (k ≤ length line) × HasContainer bytes begun (drop k line) before after)

-- what is left to begin behind one block: nothing, or what the rest of the line inside a container begins
pub record IsFinished (ext : Extensions) (bytes : List ℕ) (line : List Code) (before after : Reader) : Type 0 where
  pub tree : (n : ℕ) → whole_tree bytes after ≡ at_depth (depth before) (block_starts.with_rest (extensions_of ext) (suc n) line) (closed_tree bytes before)
  pub between : IsBetween bytes after

pub record IsEntered (ext : Extensions) (bytes : List ℕ) (line rest : List Code) (before after : Reader) : Type 0 where
  pub shorter : length rest < length line
  pub standing : IsStanding bytes after
  pub empty : inside_at (depth after) (closed_tree bytes after) ≡ nothing
  pub tree : (n : ℕ) → at_depth (depth after) (block_starts.with_rest (extensions_of ext) n rest) (closed_tree bytes after) ≡ at_depth (depth before) (block_starts.with_rest (extensions_of ext) (suc n) line) (closed_tree bytes before)

-- a block has begun: nothing is left, or the codes behind so many
abbrev pub HasPassed : Extensions → List ℕ → List Code → Option ℕ → Reader → Reader → Type 0
HasPassed ext bytes line outside before after = MatchOption outside (IsFinished ext bytes line before after)
    (λ k. (k ≤ length line) × IsEntered ext bytes line (drop k line) before after)

-- the siblings that the reader stands behind are changed in this way
abbrev pub Changes : List ℕ → (Tree → Tree) → Reader → Reader → Type 0
Changes bytes f before after = whole_tree bytes after ≡ at_depth (depth before) f (closed_tree bytes before)

-- what the rest of a line begins makes this tree; there are steps for it
pub record Begins (ext : Extensions) (bytes : List ℕ) (line : List Code) (r : Reader) (target : Tree) : Type 0 where
  pub steps : ℕ
  pub enough : length line < steps
  pub standing : IsStanding bytes r
  pub empty : is_blank_line line ≡ true → inside_at (depth r) (closed_tree bytes r) ≡ nothing
  pub tree : at_depth (depth r) (block_starts.with_rest (extensions_of ext) steps line) (closed_tree bytes r) ≡ target

-- a leaf is a paragraph, and what it is with a line that goes on lazily with it
abbrev pub is_text : model.Leaf → Bool
is_text (model.paragraph text) = true
is_text leaf = false

abbrev pub lazy_leaf : List Code → model.Leaf → model.Leaf
lazy_leaf cs (model.paragraph text) = model.paragraph (text ++ trimmed cs)
lazy_leaf cs leaf = leaf
