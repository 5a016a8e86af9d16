-- Blocks and pieces that are written one after another.
use Rattle.std.proofs.Common.{◌≡◌, ◌∙◌, sym, ap, subst, ℕ, ◌+◌, ◌<◌, List, [], ◌∷◌, ◌++◌, length, map, take, drop, get_or, append_assoc, add-one, drop-cons}
use Rattle.std.specs.Prelude.{flat_map}
use Rattle.std.proofs.lemmas.List.{length-append, length-map, map-append, take_more}
use Rattle.markdown_blocks.specs.declared.block.Row.{Row}
use Rattle.markdown_content.specs.declared.parser.Piece.{Piece}
use Rattle.markdown_inline_c.specs.FlatBlocks.{flat_blocks, flat_pieces, pieces_of_row}
use Rattle.markdown_inline_c.specs.FlatLines.{flat_piece}
use Rattle.markdown_inline_c.specs.declared.flat.FlatBlock.{FlatBlock}
use Rattle.markdown_inline_c.specs.declared.flat.FlatPiece.{FlatPiece}
use Rattle.markdown_page.specs.declared.lists.Place.{Place}

pub one-more-piece : (old found more : List FlatPiece) (pieces : List Piece) (i : ℕ) (d : Piece) → i < length pieces → found ≡ old ++ map flat_piece (take i pieces)
    → more ≡ found ++ flat_piece (get_or pieces i d) ∷ [] → more ≡ old ++ map flat_piece (take (i + 1) pieces)
one-more-piece old found more pieces i d lt so_far e =
    let x = get_or pieces i d in
    e ∙ ap (λ (ps : List FlatPiece). ps ++ flat_piece x ∷ []) so_far
    ∙ append_assoc old (map flat_piece (take i pieces)) (flat_piece x ∷ [])
    ∙ ap (λ (ps : List FlatPiece). old ++ ps) (sym (map-append flat_piece (take i pieces) (x ∷ [])) ∙ ap (map flat_piece) (sym (take_more pieces i d lt)))

-- the first of those behind so many
pub first-behind : {A : Type 0} (xs : List A) (n : ℕ) (d : A) → n < length xs → drop n xs ≡ get_or xs n d ∷ drop (n + 1) xs
first-behind xs n d lt = drop-cons xs n d lt ∙ ap (λ (k : ℕ). get_or xs n d ∷ drop k xs) (sym (add-one n))

pub one-more-block : (all blocks blocks' : List FlatBlock) (pieces pieces' : List FlatPiece) (r : Row) (rs rows : List Row) (p : Place) (ps places : List Place) (l : ℕ) (ls lines : List ℕ)
    → blocks' ≡ blocks ++ flat_blocks (length pieces) (r ∷ []) (p ∷ []) (l ∷ []) → pieces' ≡ pieces ++ map flat_piece (pieces_of_row r)
    → rs ≡ r ∷ rows → ps ≡ p ∷ places → ls ≡ l ∷ lines → blocks ++ flat_blocks (length pieces) rs ps ls ≡ all
    → blocks' ++ flat_blocks (length pieces') rows places lines ≡ all
one-more-block all blocks blocks' pieces pieces' r rs rows p ps places l ls lines one more row place line rest =
    let first = flat_blocks (length pieces) (r ∷ []) (p ∷ []) (l ∷ []) in
    let behind : length pieces' ≡ length pieces + length (pieces_of_row r) =
    ap length more ∙ length-append pieces (map flat_piece (pieces_of_row r)) ∙ ap (λ k. length pieces + k) (length-map (pieces_of_row r) flat_piece)
    in
    let so_far : blocks ++ flat_blocks (length pieces) (r ∷ rows) (p ∷ places) (l ∷ lines) ≡ all =
    subst (λ (ks : List ℕ). blocks ++ flat_blocks (length pieces) (r ∷ rows) (p ∷ places) ks ≡ all) line
    (subst (λ (ks : List Place). blocks ++ flat_blocks (length pieces) (r ∷ rows) ks ls ≡ all) place
    (subst (λ (ks : List Row). blocks ++ flat_blocks (length pieces) ks ps ls ≡ all) row rest))
    in
    ap (λ (bs : List FlatBlock). bs ++ flat_blocks (length pieces') rows places lines) one
    ∙ ap (λ (k : ℕ). (blocks ++ first) ++ flat_blocks k rows places lines) behind
    ∙ append_assoc blocks first (flat_blocks (length pieces + length (pieces_of_row r)) rows places lines)
    ∙ so_far

pub one-more-row : (all pieces pieces' : List FlatPiece) (r : Row) (rows : List Row)
    → pieces' ≡ pieces ++ map flat_piece (pieces_of_row r) → pieces ++ flat_pieces (r ∷ rows) ≡ all → pieces' ++ flat_pieces rows ≡ all
one-more-row all pieces pieces' r rows more rest =
    ap (λ (ps : List FlatPiece). ps ++ flat_pieces rows) more
    ∙ append_assoc pieces (map flat_piece (pieces_of_row r)) (flat_pieces rows)
    ∙ ap (λ (ps : List FlatPiece). pieces ++ ps) (sym (map-append flat_piece (pieces_of_row r) (flat_map pieces_of_row rows)))
    ∙ rest
