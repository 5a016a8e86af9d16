-- The pieces of a document's blocks stand where the codes of its tree do.
use Rattle.std.proofs.Common.{◌≡◌, ◌∙◌, sym, ap, subst, refl, ℕ, suc, List, [], ◌∷◌, ◌++◌, map, Bool, true, false, ◌&&◌, ◌||◌, if◌then◌else◌, arith, append-nil}
use Rattle.std.specs.Prelude.{All}
use Rattle.std.proofs.lemmas.Bool.{both_ways}
use Rattle.std.proofs.lemmas.List.Elements.{All-cons, All-nil}
use Rattle.markdown_content.specs.Codes.{Code, codes_of, is_blank, is_line_ending}
use Rattle.markdown_content.specs.Content.{ends_line, is_piece, are_pieces, piece_codes, content_of}
use Rattle.markdown_model.specs.CodeTests.{is_empty, is_whitespace_code}
use Rattle.markdown_content.specs.declared.parser.Piece.{Piece}
use Rattle.markdown_content.proofs.ContentCodes.{piece_row}
use Rattle.markdown_block_model.specs.LineRests.{onto_line, lines_of, onto_end, trimmed_end}
use Rattle.markdown_block_model.specs.TextStarts.{is_line}
use Rattle.markdown_blocks.specs.BlockRows.{leaf_of}
use Rattle.markdown_blocks.specs.TextRows.{IsLinePiece, HasCodes, AreLinePieces}
use Rattle.markdown_blocks.specs.declared.block.Leaf.{Leaf}
use Rattle.markdown_blocks.specs.declared.block.Leaf.TheVariants.{Blank, ThematicBreak, Heading, Underlined, Paragraph, IndentedCode, FencedCode, Html, FrontMatter}
use Rattle.markdown_blocks.specs.declared.block.Row.{Row}
use Rattle.markdown_blocks.specs.declared.block.Row.TheVariants.{LeafAt, ContainerAt}
use Rattle.markdown_blocks.proofs.CodePieceLemmas.{piece-stands, piece-of-codes}
use Rattle.markdown_block_definitions.specs.ResolvedRows.{IsTextRow, IsTextLeaf, HasLines, IsLineRow}
use Rattle.markdown_block_definitions.specs.RowPieces.{IsPieceOf, ArePiecesOf, lines_of_leaf, pieces_in_leaf, HasPieces}
use Rattle.markdown_block_definitions.proofs.LinesTaken.{and-first, and-second, onto-other, past-ending, first-line, others}

last-whole : (c : Code) (cs : List Code) → is_line (c ∷ cs) ≡ true → lines_of (c ∷ cs) ≡ (c ∷ cs) ∷ []
last-whole c [] h = refl
last-whole c (d ∷ ds) h =
    let k = past-ending c d ds h in
    ap (onto_line c) (last-whole d ds k.1) ∙ onto-other c (d ∷ ds) [] k.0

module _ (bytes : List ℕ) where
  abbrev codes : Piece → List Code
  codes p = piece_codes (codes_of bytes) p

  -- one piece
  of-codes : (p : Piece) (cs : List Code) → is_piece bytes p ≡ true → codes p ≡ cs → IsPieceOf cs p
  of-codes p [] h e =
      let stands = piece-stands bytes p [] h e in
      ap (λ (x : Piece). x.start) stands ∙ sym (ap (λ (x : Piece). x.end) stands)
  of-codes p (c ∷ cs) h e = piece-of-codes bytes p c cs h e

  first-piece : (p : Piece) (ps : List Piece) → are_pieces bytes (p ∷ ps) ≡ true → is_piece bytes p ≡ true
  first-piece p [] h = and-first (is_piece bytes p) true (and-first (is_piece bytes p && true) true h)
  first-piece p (q ∷ qs) h = and-first (is_piece bytes p) (are_pieces bytes (q ∷ qs)) (and-first (is_piece bytes p && are_pieces bytes (q ∷ qs)) _ h)

  -- lines of code
  code-pieces : (ps : List Piece) → are_pieces bytes ps ≡ true → ArePiecesOf (map codes ps) ps
  code-pieces [] h = tt
  code-pieces (p ∷ ps) h = (of-codes p (codes p) (first-piece p ps h) refl, code-pieces ps (piece_row bytes p ps h).others)

  last-piece : (p : Piece) (cs : List Code) → is_piece bytes p ≡ true → codes p ≡ cs → is_empty cs ≡ false → is_line cs ≡ true → ArePiecesOf (lines_of cs) (p ∷ [])
  last-piece p [] h e f l = absurd (cc)
  last-piece p (c ∷ cs) h e f l = subst (λ (ls : List (List Code)). ArePiecesOf ls (p ∷ [])) (sym (last-whole c cs l)) (of-codes p (c ∷ cs) h e, tt)

  -- a text
  text-pieces : (ps : List Piece) → are_pieces bytes ps ≡ true → All (IsLinePiece bytes) ps → All (HasCodes bytes) ps → ArePiecesOf (lines_of (content_of bytes ps)) ps
  text-pieces [] h a f = tt
  text-pieces (p ∷ []) h a f =
      subst (λ (cs : List Code). ArePiecesOf (lines_of cs) (p ∷ [])) (sym (append-nil (codes p)))
      (last-piece p (codes p) (first-piece p [] h) refl (f 0 p (omega arith)) (a 0 p (omega arith)))
  text-pieces (p ∷ q ∷ rest) h a f =
      subst (λ (ls : List (List Code)). ArePiecesOf ls (p ∷ q ∷ rest)) (sym (first-line bytes p q rest h a)) (
        of-codes p (codes p) (first-piece p (q ∷ rest) h) refl,
        text-pieces (q ∷ rest) (piece_row bytes p (q ∷ rest) h).others (others bytes p (q ∷ rest) a) (λ k d l. f (suc k) d (omega (arith, l))),
      )

  -- The last piece of a text that does not end with a line ending has codes, as the others have.
  ends-filled : (cs : List Code) → ends_line cs ≡ true → is_empty cs ≡ false
  ends-filled [] e = sym e
  ends-filled (c ∷ cs) e = refl

  ends-with-last : (xs ys : List Code) → is_empty ys ≡ false → ends_line (xs ++ ys) ≡ ends_line ys
  ends-with-last [] ys f = refl
  ends-with-last (x ∷ xs) [] f = absurd (cc)
  ends-with-last (x ∷ []) (y ∷ ys) f = refl
  ends-with-last (x ∷ z ∷ xs) (y ∷ ys) f = ends-with-last (z ∷ xs) (y ∷ ys) f

  text-filled : (ps : List Piece) → are_pieces bytes ps ≡ true → (content_of bytes ps ≡ [] → ps ≡ []) → ends_line (content_of bytes ps) ≡ false → All (HasCodes bytes) ps
  text-filled [] h n e = All-nil (HasCodes bytes)
  text-filled (p ∷ []) h n e = All-cons (HasCodes bytes) p [] (some (codes p) refl) (All-nil (HasCodes bytes))
    where
      some : (cs : List Code) → codes p ≡ cs → is_empty (codes p) ≡ false
      some [] k = let none : p ∷ [] ≡ [] = n (append-nil (codes p) ∙ k) in absurd (cc)
      some (c ∷ cs) k = rw k refl
  text-filled (p ∷ q ∷ rest) h n e = by_rest (content_of bytes (q ∷ rest)) refl (text-filled (q ∷ rest) (piece_row bytes p (q ∷ rest) h).others)
    where
      ending : ends_line (codes p) ≡ true
      ending = and-first (ends_line (codes p)) _ (and-second (is_piece bytes p && are_pieces bytes (q ∷ rest)) _ h)

      by_rest : (cs : List Code) → content_of bytes (q ∷ rest) ≡ cs
          → ((content_of bytes (q ∷ rest) ≡ [] → q ∷ rest ≡ []) → ends_line (content_of bytes (q ∷ rest)) ≡ false → All (HasCodes bytes) (q ∷ rest)) → All (HasCodes bytes) (p ∷ q ∷ rest)
      by_rest [] k more = absurd (both_ways (ends_line (codes p)) (ap ends_line (sym (ap (λ cs. codes p ++ cs) k ∙ append-nil (codes p))) ∙ e) ending)
      by_rest (c ∷ cs) k more =
          let f : is_empty (content_of bytes (q ∷ rest)) ≡ false = ap is_empty k in
          All-cons (HasCodes bytes) p (q ∷ rest) (ends-filled (codes p) ending)
          (more (λ none. absurd (some none)) (sym (ends-with-last (codes p) (content_of bytes (q ∷ rest)) f) ∙ e))
        where
          some : content_of bytes (q ∷ rest) ≡ [] → ⊥
          some none = let x : c ∷ cs ≡ [] = sym k ∙ none in absurd (cc)

  -- a trimmed text does not
  trimmed-open : (cs : List Code) → trimmed_end cs ≡ cs → ends_line cs ≡ false
  trimmed-open [] e = refl
  trimmed-open (c ∷ []) e = by_test (is_blank c) (is_line_ending c) e
    where
      by_test : (a b : Bool) → (if a || b then [] else c ∷ []) ≡ c ∷ [] → b ≡ false
      by_test true b e = absurd (cc)
      by_test false true e = absurd (cc)
      by_test false false e = refl
  trimmed-open (c ∷ d ∷ ds) e = by_rest (trimmed_end (d ∷ ds)) refl e (trimmed-open (d ∷ ds))
    where
      by_test : (b : Bool) → (if b then [] else c ∷ []) ≡ c ∷ d ∷ ds → ⊥
      by_test true e = cc
      by_test false e = cc

      by_rest : (r : List Code) → trimmed_end (d ∷ ds) ≡ r → onto_end is_whitespace_code c r ≡ c ∷ d ∷ ds
          → (trimmed_end (d ∷ ds) ≡ d ∷ ds → ends_line (d ∷ ds) ≡ false) → ends_line (d ∷ ds) ≡ false
      by_rest [] k e more = absurd (by_test (is_whitespace_code c) e)
      by_rest (x ∷ xs) k e more = let same : x ∷ xs ≡ d ∷ ds = cc in more (k ∙ same)

  whole-text : (ps : List Piece) → AreLinePieces bytes ps → (content_of bytes ps ≡ [] → ps ≡ []) → trimmed_end (content_of bytes ps) ≡ content_of bytes ps → ArePiecesOf (lines_of (content_of bytes ps)) ps
  whole-text ps h n t = text-pieces ps h.in_order h.one_line_each (text-filled ps h.in_order n (trimmed-open (content_of bytes ps) t))

  -- those of a leaf
  leaf-pieces : (l : Leaf) → HasLines bytes l → IsTextLeaf bytes l → ArePiecesOf (lines_of_leaf (leaf_of bytes l)) (pieces_in_leaf l)
  leaf-pieces Blank h u = tt
  leaf-pieces ThematicBreak h u = tt
  leaf-pieces (Heading n piece) h u = code-pieces (piece ∷ []) h.in_order
  leaf-pieces (Underlined n text) h u = subst (λ (cs : List Code). ArePiecesOf (lines_of cs) text.items) (sym u.trimmed) (whole-text text.items h u.none u.trimmed)
  leaf-pieces (Paragraph text) h u = whole-text text.items h u.none u.trimmed
  leaf-pieces (IndentedCode ls) h u = code-pieces ls.items h.in_order
  leaf-pieces (FencedCode f info ls ended) h u = ((code-pieces (info ∷ []) h.0.in_order).0, code-pieces ls.items h.1.in_order)
  leaf-pieces (Html k text ended) h u = text-pieces text.items h.0.in_order h.0.one_line_each h.1
  leaf-pieces (FrontMatter ls) h u = code-pieces ls.items h.in_order

  row-pieces : (r : Row) → IsTextRow bytes r → IsLineRow bytes r → HasPieces bytes r
  row-pieces (LeafAt d l) t h = leaf-pieces l h t
  row-pieces (ContainerAt d c) t h = tt

  pub pieces-of-rows : (rs : List Row) → All (IsTextRow bytes) rs → All (IsLineRow bytes) rs → All (HasPieces bytes) rs
  pieces-of-rows rs t h = λ k d l. row-pieces _ (t k d l) (h k d l)
