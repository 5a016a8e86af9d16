-- Texts of rows and of the open leaf, as lines go on.
use Rattle.std.proofs.Common.{◌≡◌, ℕ, ◌<◌, refl, sym, subst, Bool, false, List, [], ◌∷◌, ◌++◌, length, Option, Some, ap, ◌∙◌, append-nil, arith}
use Rattle.std.specs.Prelude.{All}
use Rattle.std.proofs.lemmas.List.Elements.{All-push, All-cons, All-nil}
use Rattle.markdown_event.specs.declared.event.Point.{Point}
use Rattle.markdown_content.specs.declared.parser.Piece.{Piece}
use Rattle.markdown_content.specs.Codes.{Code, codes_of}
use Rattle.markdown_content.specs.Content.{piece_codes, content_of}
use Rattle.markdown_model.specs.CodeTests.{is_empty}
use Rattle.markdown_block_model.specs.LineRests.{trimmed_end}
use Rattle.markdown_block_model.specs.BlockTree.{html, nothing}
use Rattle.markdown_block_model.specs.BlockStarts.{leaf_begins, begun}
use Rattle.markdown_block_line.specs.declared.containers.Container.{Container}
use Rattle.markdown_blocks.specs.TreeDepth.{spine}
use Rattle.markdown_blocks.specs.BlockRows.{closed_tree, depth, IsStanding}
use Rattle.markdown_blocks.specs.NestedRows.{AreNested}
use Rattle.markdown_blocks.specs.declared.reader.Reader.{Reader}
use Rattle.markdown_blocks.specs.declared.block.Leaf.{Leaf}
use Rattle.markdown_blocks.specs.declared.block.Row.{Row}
use Rattle.markdown_blocks.specs.declared.block.Row.TheVariants.{LeafAt, ContainerAt}
use Rattle.markdown_blocks.specs.TextRows.{HasCodes, AreLinePieces, ArePlaced, IsTrimmedText, line_stop, IsLineRest, IsLineEnd, EndAt, LinesEnd, HasPlacedText, IsPlacedRow, HasPlacedRows, IsOpenLeaf, IsOpen}
use Rattle.markdown_blocks.proofs.NestedRowLemmas.{nested-append}
use Rattle.markdown_blocks.proofs.PlacedPieces.{next-placed, one-placed, ends-at, next-lines, one-line, lines-end}
use Rattle.markdown_blocks.proofs.ReaderTrees.{closed-le}
use Rattle.markdown_block_line.specs.LineBlocks.{extensions_of}
use Rattle.markdown_block_line.specs.declared.extensions.Extensions.{Extensions}

-- a row more, which stands as deep as the path is long
rows-more : (bytes : List ℕ) (r : Reader) (ps : List Row) (q : Row) → ps ≡ r.rows.items ++ q ∷ [] → HasPlacedRows bytes r → IsPlacedRow bytes q → AreNested (length (spine (closed_tree bytes r))) (q ∷ [])
    → All (IsPlacedRow bytes) ps × AreNested 0 ps
rows-more bytes r ps q e h t n =
    subst (λ xs. All (IsPlacedRow bytes) xs × AreNested 0 xs) (sym e) (All-push (IsPlacedRow bytes) r.rows.items q h.0 t, nested-append bytes r.rows.items (q ∷ []) nothing h.1 n)

pub rows-leaf : (bytes : List ℕ) (r : Reader) (ps : List Row) (n : ℕ) (l : Leaf) → ps ≡ r.rows.items ++ LeafAt n l ∷ [] → n ≡ depth r → IsStanding bytes r → HasPlacedRows bytes r → HasPlacedText bytes l
    → All (IsPlacedRow bytes) ps × AreNested 0 ps
rows-leaf bytes r ps n l e d s h t =
    let le = closed-le bytes r s.is_front in
    rows-more bytes r ps (LeafAt n l) e h t (rw d le, tt)

pub rows-container : (bytes : List ℕ) (r : Reader) (ps : List Row) (n : ℕ) (c : Container) → ps ≡ r.rows.items ++ ContainerAt n c ∷ [] → n ≡ depth r → IsStanding bytes r → HasPlacedRows bytes r
    → All (IsPlacedRow bytes) ps × AreNested 0 ps
rows-container bytes r ps n c e d s h =
    let le = closed-le bytes r s.is_front in
    rows-more bytes r ps (ContainerAt n c) e h tt (rw d le, tt)

-- the paragraph that a line begins
pub opened-one : (bytes : List ℕ) (p : Point) (ps : List Piece) (piece : Piece) → ps ≡ piece ∷ [] → IsLineEnd bytes p piece
    → ArePlaced bytes ps × ((line_stop bytes p).index < length bytes → EndAt bytes (line_stop bytes p) ps)
opened-one bytes p ps piece e l =
    subst (λ (xs : List Piece). ArePlaced bytes xs × ((line_stop bytes p).index < length bytes → EndAt bytes (line_stop bytes p) xs)) (sym e)
    (one-placed bytes p piece l, λ lt. ends-at bytes p [] piece l.rest lt)

-- and one that it continues
pub opened-more : (bytes : List ℕ) (p : Point) (ps qs : List Piece) (piece : Piece) → qs ≡ ps ++ piece ∷ [] → ArePlaced bytes ps × (p.index < length bytes → EndAt bytes p ps) → IsLineEnd bytes p piece
    → ArePlaced bytes qs × ((line_stop bytes p).index < length bytes → EndAt bytes (line_stop bytes p) qs)
opened-more bytes p ps qs piece e h l =
    subst (λ (xs : List Piece). ArePlaced bytes xs × ((line_stop bytes p).index < length bytes → EndAt bytes (line_stop bytes p) xs)) (sym e)
    (next-placed bytes p ps piece h.0 (h.1 l.rest.begins) l, λ lt. ends-at bytes p ps piece l.rest lt)

-- the lines of code or of HTML that a line begins
pub opened-line : (bytes : List ℕ) (p : Point) (ps : List Piece) (piece : Piece) → ps ≡ piece ∷ [] → IsLineRest bytes p piece
    → AreLinePieces bytes ps × ((line_stop bytes p).index < length bytes → LinesEnd bytes (line_stop bytes p) ps)
opened-line bytes p ps piece e l =
    subst (λ (xs : List Piece). AreLinePieces bytes xs × ((line_stop bytes p).index < length bytes → LinesEnd bytes (line_stop bytes p) xs)) (sym e)
    (one-line bytes p piece l, λ lt. lines-end bytes p [] piece l lt)

-- and those that it continues
pub further-line : (bytes : List ℕ) (p : Point) (ps qs : List Piece) (piece : Piece) → qs ≡ ps ++ piece ∷ [] → AreLinePieces bytes ps → (p.index < length bytes → LinesEnd bytes p ps) → IsLineRest bytes p piece
    → AreLinePieces bytes qs × ((line_stop bytes p).index < length bytes → LinesEnd bytes (line_stop bytes p) qs)
further-line bytes p ps qs piece e h f l =
    subst (λ (xs : List Piece). AreLinePieces bytes xs × ((line_stop bytes p).index < length bytes → LinesEnd bytes (line_stop bytes p) xs)) (sym e)
    (next-lines bytes p ps piece h (f l.begins) l, λ lt. lines-end bytes p ps piece l lt)

-- the line that HTML begins with has codes
pub html-filled : (ext : Extensions) (a b ended : Bool) (k : ℕ) (cs : List Code) → begun (extensions_of ext) a b cs ≡ Some (leaf_begins (html k cs ended)) → is_empty cs ≡ false
html-filled ext a b ended k [] e = absurd (cc)
html-filled ext a b ended k (c ∷ cs) e = refl

pub first-filled : (bytes : List ℕ) (ps : List Piece) (piece : Piece) (cs : List Code) → ps ≡ piece ∷ [] → piece_codes (codes_of bytes) piece ≡ cs → is_empty cs ≡ false → All (HasCodes bytes) ps
first-filled bytes ps piece cs e k f = subst (All (HasCodes bytes)) (sym e) (All-cons (HasCodes bytes) piece [] (ap is_empty k ∙ f) (All-nil (HasCodes bytes)))

-- and so has each further one, but where the document ends
pub next-filled : (bytes : List ℕ) (ps qs : List Piece) (piece : Piece) (cs : List Code) → qs ≡ ps ++ piece ∷ [] → All (HasCodes bytes) ps
    → piece_codes (codes_of bytes) piece ≡ cs → 0 < length cs → All (HasCodes bytes) qs
next-filled bytes ps qs piece cs e h k l = subst (All (HasCodes bytes)) (sym e) (All-push (HasCodes bytes) ps piece h (ap is_empty k ∙ some cs l))
  where
    some : (cs : List Code) → 0 < length cs → is_empty cs ≡ false
    some [] l = absurd (omega (arith, l))
    some (c ∷ cs) l = refl

-- the open leaf
pub open-some : (bytes : List ℕ) (p : Point) (o : Option Leaf) (l : Leaf) → o ≡ Some l → IsOpen bytes p o → IsOpenLeaf bytes p l
open-some bytes p o l e h = subst (λ x. IsOpen bytes p x) e h

-- the text of a heading
pub heading-text : (bytes : List ℕ) (piece : Piece) (cs : List Code) → piece_codes (codes_of bytes) piece ≡ cs → ArePlaced bytes (piece ∷ []) → trimmed_end cs ≡ cs → IsTrimmedText bytes (piece ∷ [])
heading-text bytes piece cs e h t =
    let codes : content_of bytes (piece ∷ []) ≡ cs = append-nil (piece_codes (codes_of bytes) piece) ∙ e in
    record { placed = h; ends = ap trimmed_end codes ∙ t ∙ sym codes }
