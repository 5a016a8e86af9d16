-- Blocks of a document as a caller in C gets them (CommonMark 4 and 5).
use Rattle.std.specs.Prelude.{◌≡◌, ◌<◌, ◌⊎◌, ◌+◌, ℕ, if◌then◌else◌, List, [], ◌∷◌, All, length, map, flat_map, None}
use Rattle.markdown_block_definitions.specs.ResolvedRows.{IsTextRow, IsLineRow}
use Rattle.markdown_block_definitions.specs.RowPieces.{HasPieces}
use Rattle.markdown_block_line.specs.declared.containers.Container.{Container}
use Rattle.markdown_block_line.specs.declared.containers.Container.TheVariants.{Quote, Item}
use Rattle.markdown_block_line.specs.declared.containers.Marker.TheVariants.{Bullet, Ordered}
use Rattle.markdown_block_model.specs.BlockLines.{begins_of}
use Rattle.markdown_block_model.specs.BlockTree.{nothing}
use Rattle.markdown_block_model.specs.LinkDefinitions.{document_tree, has_text}
use Rattle.markdown_blocks.specs.BlockRows.{rows_from}
use Rattle.markdown_blocks.specs.NestedRows.{AreNested}
use Rattle.markdown_blocks.specs.declared.block.Leaf.{Leaf}
use Rattle.markdown_blocks.specs.declared.block.Leaf.TheVariants.{Blank, ThematicBreak, Heading, Underlined, Paragraph, IndentedCode, FencedCode, Html, FrontMatter}
use Rattle.markdown_blocks.specs.declared.block.Row.{Row}
use Rattle.markdown_blocks.specs.declared.block.Row.TheVariants.{LeafAt, ContainerAt}
use Rattle.markdown_content.specs.KnownPlaces.{IsDocument}
use Rattle.markdown_content.specs.declared.parser.Piece.{Piece}
use Rattle.markdown_inline_c.specs.Answers.{IsRefused, over}
use Rattle.markdown_inline_c.specs.FlatExtensions.{AreKnownBlocks, IsBlocksFault, extensions_in}
use Rattle.markdown_inline_c.specs.FlatLines.{flat_piece}
use Rattle.markdown_inline_c.specs.declared.blocks.BlockKind.{BlockKind}
use Rattle.markdown_inline_c.specs.declared.flat.BlocksCount.{BlocksCount}
use Rattle.markdown_inline_c.specs.declared.flat.FlatBlock.{FlatBlock}
use Rattle.markdown_inline_c.specs.declared.flat.FlatPiece.{FlatPiece}
use Rattle.markdown_inline_c.specs.declared.flat.Range.{Range}
use Rattle.markdown_page.specs.ListPlaces.{places_in}
use Rattle.markdown_page.specs.declared.lists.Place.{Place}

-- One block.

abbrev pub block_kind_number : BlockKind → ℕ
block_kind_number BlockKind.BlankLine = 0
block_kind_number BlockKind.ThematicBreak = 1
block_kind_number BlockKind.Heading = 2
block_kind_number BlockKind.Paragraph = 3
block_kind_number BlockKind.IndentedCode = 4
block_kind_number BlockKind.FencedCode = 5
block_kind_number BlockKind.Html = 6
block_kind_number BlockKind.Quote = 7
block_kind_number BlockKind.Item = 8
block_kind_number BlockKind.FrontMatter = 9

-- where an item stands in its list, by bits
abbrev pub list_bits : Place → ℕ
list_bits p = (if p.begins then 1 else 0) + (if p.ends then 2 else 0) + (if p.is_loose then 4 else 0)

-- a block that has no number and no marker, before its line is known
abbrev pub plain_block : BlockKind → (depth : ℕ) (pieces : Range) → FlatBlock
plain_block kind depth pieces = record { pieces = pieces; depth = depth; number = 0; line = 0; kind = block_kind_number kind; marker = 0; list = 0; reserved = 0; reserved_too = 0 }

abbrev pub flat_leaf : (depth : ℕ) → Leaf → (pieces : Range) → FlatBlock
flat_leaf depth Blank pieces = plain_block BlockKind.BlankLine depth pieces
flat_leaf depth ThematicBreak pieces = plain_block BlockKind.ThematicBreak depth pieces
flat_leaf depth (Heading level text) pieces = record (plain_block BlockKind.Heading depth pieces) { number = level }
flat_leaf depth (Underlined level text) pieces = record (plain_block BlockKind.Heading depth pieces) { number = level }
flat_leaf depth (Paragraph text) pieces = plain_block BlockKind.Paragraph depth pieces
flat_leaf depth (IndentedCode ls) pieces = plain_block BlockKind.IndentedCode depth pieces
flat_leaf depth (FencedCode fence info ls ended) pieces = record (plain_block BlockKind.FencedCode depth pieces) { marker = fence.value }
flat_leaf depth (Html kind text ended) pieces = record (plain_block BlockKind.Html depth pieces) { number = kind }
flat_leaf depth (FrontMatter ls) pieces = plain_block BlockKind.FrontMatter depth pieces

abbrev pub flat_container : (depth : ℕ) → Container → Place → (pieces : Range) → FlatBlock
flat_container depth Quote place pieces = plain_block BlockKind.Quote depth pieces
flat_container depth (Item (Bullet bullet) columns) place pieces = record (plain_block BlockKind.Item depth pieces) { marker = bullet; list = list_bits place }
flat_container depth (Item (Ordered delimiter number) columns) place pieces = record (plain_block BlockKind.Item depth pieces) { number = number; marker = delimiter; list = list_bits place }

abbrev pub flat_block : Row → Place → (pieces : Range) → FlatBlock
flat_block (LeafAt depth leaf) place pieces = flat_leaf depth leaf pieces
flat_block (ContainerAt depth container) place pieces = flat_container depth container place pieces

-- Pieces.

-- those of a leaf: of its text, or of its lines; an info string stands before the lines of the code
abbrev pub pieces_of_leaf : Leaf → List Piece
pieces_of_leaf Blank = []
pieces_of_leaf ThematicBreak = []
pieces_of_leaf (Heading level text) = text ∷ []
pieces_of_leaf (Underlined level text) = text.items
pieces_of_leaf (Paragraph text) = text.items
pieces_of_leaf (IndentedCode ls) = ls.items
pieces_of_leaf (FencedCode fence info ls ended) = info ∷ ls.items
pieces_of_leaf (Html kind text ended) = text.items
pieces_of_leaf (FrontMatter ls) = ls.items

abbrev pub pieces_of_row : Row → List Piece
pieces_of_row (LeafAt depth leaf) = pieces_of_leaf leaf
pieces_of_row (ContainerAt depth container) = []

-- The blocks of a document.

-- rows, each with its place and with the line on which it begins; so many pieces stand before those of the first
abbrev pub flat_blocks : ℕ → List Row → List Place → (lines : List ℕ) → List FlatBlock
flat_blocks before [] places lines = []
flat_blocks before (r ∷ rows) [] lines = []
flat_blocks before (r ∷ rows) (place ∷ places) [] = []
flat_blocks before (r ∷ rows) (place ∷ places) (line ∷ lines) =
    let behind = before + length (pieces_of_row r) in
    record (flat_block r place (record { start = before; end = behind })) { line = line } ∷ flat_blocks behind rows places lines

abbrev pub flat_pieces : List Row → List FlatPiece
flat_pieces rows = map flat_piece (flat_map pieces_of_row rows)

-- Of a document, read with the blocks that the bits ask for, these are the blocks, with where each item stands in its list and on which line each block begins, and the pieces. The rows that they are
-- made of have its tree, each text of theirs is a text content, each piece is of one line and stands where the codes of the tree do, and each row stands at most
-- one deeper than the container before it.
pub record AreBlocks (bits : ℕ) (bytes : List ℕ) (blocks : List FlatBlock) (pieces : List FlatPiece) : Type 0 where
  pub rows : List Row
  pub tree : rows_from bytes nothing rows ≡ document_tree (extensions_in bits) bytes
  pub nested : AreNested 0 rows
  pub texts : All (IsTextRow bytes) rows
  pub lines : All (IsLineRow bytes) rows
  pub stand : All (HasPieces bytes) rows
  pub blocks_are : blocks ≡ flat_blocks 0 rows (places_in None (document_tree (extensions_in bits) bytes)) (begins_of (extensions_in bits) has_text bytes)
  pub pieces_are : pieces ≡ flat_pieces rows

-- What the call leaves.

-- they stand at the fronts of the arrays, and what follows there is as before
pub record AreBlocksDone (blocks blocks_old blocks_new : List FlatBlock) (pieces pieces_old pieces_new : List FlatPiece) (status : ℕ) : Type 0 where
  pub status_is : status ≡ 0
  pub blocks_done : blocks_new ≡ over blocks_old blocks
  pub pieces_done : pieces_new ≡ over pieces_old pieces

-- one of the arrays has too little room, and both are as before
pub record AreBlocksTooMany (blocks blocks_old blocks_new : List FlatBlock) (pieces pieces_old pieces_new : List FlatPiece) (status : ℕ) : Type 0 where
  pub status_is : status ≡ 6
  pub no_room : (length blocks_old < length blocks) ⊎ (length pieces_old < length pieces)
  pub blocks_kept : blocks_new ≡ blocks_old
  pub pieces_kept : pieces_new ≡ pieces_old

-- blocks and pieces are handed out, and counted
pub record AreBlocksHandedOut (blocks blocks_old blocks_new : List FlatBlock) (pieces pieces_old pieces_new : List FlatPiece) (count : BlocksCount) (status : ℕ) : Type 0 where
  pub count_is : count ≡ record { blocks = length blocks; pieces = length pieces }
  pub handed_out : AreBlocksDone blocks blocks_old blocks_new pieces pieces_old pieces_new status ⊎ AreBlocksTooMany blocks blocks_old blocks_new pieces pieces_old pieces_new status

-- the document is read, and its blocks are handed out
pub record IsBlocksRead (bits : ℕ) (bytes : List ℕ) (blocks_old blocks_new : List FlatBlock) (pieces_old pieces_new : List FlatPiece) (count : BlocksCount) (status : ℕ) : Type 0 where
  pub known : AreKnownBlocks bits
  pub is_document : IsDocument bytes
  pub blocks : List FlatBlock
  pub pieces : List FlatPiece
  pub are : AreBlocks bits bytes blocks pieces
  pub handed_out : AreBlocksHandedOut blocks blocks_old blocks_new pieces pieces_old pieces_new count status

-- the document is read, or it is refused and nothing is written
abbrev pub IsBlocksAnswer : (bits : ℕ) (bytes : List ℕ) (blocks_old blocks_new : List FlatBlock) (pieces_old pieces_new : List FlatPiece) (count_old count_new : BlocksCount) (status : ℕ) → Type 0
IsBlocksAnswer bits bytes blocks_old blocks_new pieces_old pieces_new count_old count_new status =
    IsBlocksRead bits bytes blocks_old blocks_new pieces_old pieces_new count_new status
    ⊎ (IsRefused (IsBlocksFault bits bytes) status × ((blocks_new ≡ blocks_old) × ((pieces_new ≡ pieces_old) × (count_new ≡ count_old))))
