-- The rows of a document without its link reference definitions (CommonMark 4.7).
use Rattle.std.specs.Prelude.{◌≡◌, ℕ, List, [], ◌∷◌, IsUtf8, All}
use Rattle.markdown_content.specs.Content.{content_of, IsTextContent}
use Rattle.markdown_content.specs.declared.parser.Piece.{Piece}
use Rattle.markdown_block_model.specs.LineRests.{trimmed_end}
use Rattle.markdown_block_model.specs.LinkDefinitions.{Definition, text_of_leaf, definitions_in}
use Rattle.markdown_blocks.specs.BlockRows.{leaf_of}
use Rattle.markdown_blocks.specs.TextRows.{AreLinePieces, HasCodes}
use Rattle.markdown_blocks.specs.declared.block.Leaf.{Leaf}
use Rattle.markdown_blocks.specs.declared.block.Leaf.TheVariants.{Blank, ThematicBreak, Heading, Underlined, Paragraph, IndentedCode, FencedCode, Html, FrontMatter}
use Rattle.markdown_blocks.specs.declared.block.Row.{Row}
use Rattle.markdown_blocks.specs.declared.block.Row.TheVariants.{LeafAt, ContainerAt}

-- a text content, as the inline layer takes it, without whitespace at its end; without codes it has no pieces
pub record IsTextWithPieces (bytes : List ℕ) (pieces : List Piece) : Type 0 where
  pub content : IsTextContent bytes pieces
  pub trimmed : trimmed_end (content_of bytes pieces) ≡ content_of bytes pieces
  pub none : content_of bytes pieces ≡ [] → pieces ≡ []

-- the texts of a leaf are; that of a heading of number signs may be a piece without codes
abbrev pub IsTextLeaf : List ℕ → Leaf → Type 0
IsTextLeaf bytes Blank = Unit {0}
IsTextLeaf bytes ThematicBreak = Unit {0}
IsTextLeaf bytes (Heading n piece) = IsTextContent bytes (piece ∷ [])
IsTextLeaf bytes (Underlined n text) = IsTextWithPieces bytes text.items
IsTextLeaf bytes (Paragraph text) = IsTextWithPieces bytes text.items
IsTextLeaf bytes (IndentedCode ls) = Unit {0}
IsTextLeaf bytes (FencedCode f info ls ended) = Unit {0}
IsTextLeaf bytes (Html k text ended) = Unit {0}
IsTextLeaf bytes (FrontMatter ls) = Unit {0}

abbrev pub IsTextRow : List ℕ → Row → Type 0
IsTextRow bytes (LeafAt d l) = IsTextLeaf bytes l
IsTextRow bytes (ContainerAt d c) = Unit {0}

-- Each piece of a leaf is of one line, those of its text, of its code and of its HTML are in order, and all stand between characters. An info string is one piece, which may have no codes; a piece of HTML has some.
abbrev pub HasLines : List ℕ → Leaf → Type 0
HasLines bytes Blank = Unit {0}
HasLines bytes ThematicBreak = Unit {0}
HasLines bytes (Heading n piece) = AreLinePieces bytes (piece ∷ [])
HasLines bytes (Underlined n text) = AreLinePieces bytes text.items
HasLines bytes (Paragraph text) = AreLinePieces bytes text.items
HasLines bytes (IndentedCode ls) = AreLinePieces bytes ls.items
HasLines bytes (FencedCode f info ls ended) = AreLinePieces bytes (info ∷ []) × AreLinePieces bytes ls.items
HasLines bytes (Html k text ended) = AreLinePieces bytes text.items × All (HasCodes bytes) text.items
HasLines bytes (FrontMatter ls) = AreLinePieces bytes ls.items

abbrev pub IsLineRow : List ℕ → Row → Type 0
IsLineRow bytes (LeafAt d l) = HasLines bytes l
IsLineRow bytes (ContainerAt d c) = Unit {0}

-- What becomes of rows.

abbrev pub definitions_of_row : List ℕ → Row → List Definition
definitions_of_row bytes (LeafAt d l) = definitions_in (leaf_of bytes l)
definitions_of_row bytes (ContainerAt d c) = []

-- the second leaf is the first without its definitions
pub record IsResolvedLeaf (bytes : List ℕ) (before after : Leaf) : Type 0 where
  pub leaf : leaf_of bytes after ≡ text_of_leaf (leaf_of bytes before)
  pub text : IsUtf8 bytes → IsTextLeaf bytes after
  pub lines : HasLines bytes after

abbrev pub IsResolvedRow : List ℕ → Row → Row → Type 0
IsResolvedRow bytes (LeafAt d l) (LeafAt e m) = (e ≡ d) × IsResolvedLeaf bytes l m
IsResolvedRow bytes (ContainerAt d c) (ContainerAt e b) = (e ≡ d) × (b ≡ c)
IsResolvedRow bytes (LeafAt d l) (ContainerAt e c) = ⊥
IsResolvedRow bytes (ContainerAt d c) (LeafAt e l) = ⊥

abbrev pub AreResolved : List ℕ → List Row → List Row → Type 0
AreResolved bytes [] [] = Unit {0}
AreResolved bytes (r ∷ rs) (s ∷ ss) = IsResolvedRow bytes r s × AreResolved bytes rs ss
AreResolved bytes [] (s ∷ ss) = ⊥
AreResolved bytes (r ∷ rs) [] = ⊥
