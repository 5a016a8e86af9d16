-- Where the pieces of a document's blocks stand: where the codes of its tree do.
use Rattle.std.specs.Prelude.{◌≡◌, ℕ, List, [], ◌∷◌, flat_map}
use Rattle.markdown_content.specs.Codes.{Code}
use Rattle.markdown_content.specs.declared.parser.Piece.{Piece}
use Rattle.markdown_block_model.specs.BlockTree as model
use Rattle.markdown_block_model.specs.LineRests.{lines_of}
use Rattle.markdown_blocks.specs.CodePieces.{piece_of_codes}
use Rattle.markdown_blocks.specs.BlockRows.{leaf_of}
use Rattle.markdown_blocks.specs.declared.block.Leaf.{Leaf}
use Rattle.markdown_blocks.specs.declared.block.Leaf.TheVariants.{Blank, ThematicBreak, Heading, Underlined, Paragraph, IndentedCode, FencedCode, Html, FrontMatter}
use Rattle.markdown_blocks.specs.declared.block.Row.{Row}
use Rattle.markdown_blocks.specs.declared.block.Row.TheVariants.{LeafAt, ContainerAt}

-- a piece stands from where the first of these codes begins to where the last ends; where there are none, it ends where it starts
abbrev pub IsPieceOf : List Code → Piece → Type 0
IsPieceOf [] p = p.start ≡ p.end
IsPieceOf (c ∷ cs) p = p ≡ piece_of_codes c cs

-- pieces are those of these lines, one for each
abbrev pub ArePiecesOf : List (List Code) → List Piece → Type 0
ArePiecesOf [] [] = Unit {0}
ArePiecesOf [] (p ∷ ps) = ⊥
ArePiecesOf (l ∷ ls) [] = ⊥
ArePiecesOf (l ∷ ls) (p ∷ ps) = IsPieceOf l p × ArePiecesOf ls ps

-- the lines of a leaf of the tree; an info string is the first, and of a table they are its cells
abbrev pub lines_of_leaf : model.Leaf → List (List Code)
lines_of_leaf model.blank = []
lines_of_leaf model.thematic_break = []
lines_of_leaf (model.heading n text) = text ∷ []
lines_of_leaf (model.underlined n text) = lines_of text
lines_of_leaf (model.paragraph text) = lines_of text
lines_of_leaf (model.indented_code ls) = ls
lines_of_leaf (model.fenced_code f info ls ended) = info ∷ ls
lines_of_leaf (model.html k text ended) = lines_of text
lines_of_leaf (model.table columns rows) = flat_map (λ row. row) rows
lines_of_leaf (model.front_matter ls) = ls

abbrev pub pieces_in_leaf : Leaf → List Piece
pieces_in_leaf Blank = []
pieces_in_leaf ThematicBreak = []
pieces_in_leaf (Heading n piece) = piece ∷ []
pieces_in_leaf (Underlined n text) = text.items
pieces_in_leaf (Paragraph text) = text.items
pieces_in_leaf (IndentedCode ls) = ls.items
pieces_in_leaf (FencedCode f info ls ended) = info ∷ ls.items
pieces_in_leaf (Html k text ended) = text.items
pieces_in_leaf (FrontMatter ls) = ls.items

-- the pieces of a row stand where the codes of its leaf do
abbrev pub HasPieces : List ℕ → Row → Type 0
HasPieces bytes (LeafAt d l) = ArePiecesOf (lines_of_leaf (leaf_of bytes l)) (pieces_in_leaf l)
HasPieces bytes (ContainerAt d c) = Unit {0}
