-- Codes of a content that stand one after another: one ends where the next begins, or ends a line.
use Rattle.std.proofs.Common.{◌≡◌, ℕ, true, ◌&&◌, ◌⊎◌, inl, List, [], ◌∷◌, ◌++◌, refl, sym, ap, subst, ◌∙◌, append-nil, arith}
use Rattle.std.proofs.lemmas.Bool.{and_parts}
use Rattle.std.proofs.lemmas.List.Elements.{filter-append}
use Rattle.markdown_event.specs.declared.event.Point.{Point}
use Rattle.markdown_content.specs.declared.parser.Piece.{Piece}
use Rattle.markdown_content.specs.Codes.{Code, codes_of, document_start, is_at_or_after, is_line_ending, place_of, stop_of}
use Rattle.markdown_content.specs.Content.{content_of, piece_codes, is_piece, are_pieces, ends_line, is_one_line}
use Rattle.markdown_content.specs.DocumentWalk.{codes_after}
use Rattle.markdown_content.proofs.AdjacentCodes.{IsChain, before_in, from_in, before_in-none, chain-back, split-at}
use Rattle.markdown_content.proofs.DocumentPlaces.{chain-split, document-split, there, IsThere}
use Rattle.markdown_content.proofs.ContentCodes.{piece-codes-is, piece_row, IsPieceRow, followed_by}

-- Two codes.

module _ (bytes : List ℕ) where
  -- the first ends a line, and the second stands on the next one, perhaps behind what the content leaves out
  pub record IsBreak (c d : Code) : Type 0 where
    pub ending : is_line_ending c ≡ true
    pub after : is_at_or_after (place_of c.stop) (place_of d.start) ≡ true
    pub line : is_one_line bytes (place_of c.stop) (place_of d.start) ≡ true

  abbrev pub JoinsOrBreaks : Code → Code → Type 0
  JoinsOrBreaks c d = (place_of c.stop ≡ place_of d.start) ⊎ IsBreak c d

  -- each follows the one before
  abbrev pub AreNext : List Code → Type 0
  AreNext [] = Unit {0}
  AreNext (c ∷ []) = Unit {0}
  AreNext (c ∷ d ∷ cs) = JoinsOrBreaks c d × AreNext (d ∷ cs)

  -- the first of the second list follows the last of the first one
  abbrev pub Border : List Code → List Code → Type 0
  Border [] ds = Unit {0}
  Border (c ∷ []) [] = Unit {0}
  Border (c ∷ []) (d ∷ ds) = JoinsOrBreaks c d
  Border (c ∷ x ∷ cs) ds = Border (x ∷ cs) ds

  pub next-join : (cs ds : List Code) → AreNext cs → AreNext ds → Border cs ds → AreNext (cs ++ ds)
  next-join (c ∷ x ∷ cs) ds h k b = (h.0, next-join (x ∷ cs) ds h.1 k b)
  next-join cs ds h k b = grind arith

  pub next-parts : (cs ds : List Code) → AreNext (cs ++ ds) → AreNext ds × Border cs ds
  next-parts (c ∷ x ∷ cs) ds h = next-parts (x ∷ cs) ds h.1
  next-parts cs ds h = grind arith

  pub next-front : (cs ds : List Code) → AreNext (cs ++ ds) → AreNext cs
  next-front (c ∷ x ∷ cs) ds h = (h.0, next-front (x ∷ cs) ds h.1)
  next-front cs ds h = tt

  -- Codes of a piece.

  chain-next : (p : Point) (cs : List Code) → IsChain p cs → AreNext cs
  chain-next p (c ∷ d ∷ cs) h = (inl (ap place_of (sym h.2.0)), chain-next c.stop (d ∷ cs) h.2)
  chain-next p cs h = tt

  chain-front : (p : Point) (cs ds : List Code) → IsChain p (cs ++ ds) → IsChain p cs
  chain-front p [] ds h = tt
  chain-front p (c ∷ cs) ds h = (h.0, h.1, chain-front c.stop cs ds h.2)

  -- from a place on, the codes before another
  abbrev start_point : Piece → Point
  start_point piece = stop_of document_start (before_in piece.start (codes_of bytes))

  after-chain : (piece : Piece) → IsChain (start_point piece) (codes_after bytes piece.start)
  after-chain piece = grind (arith, chain-back, chain-split, document-split)

  piece-chain : (piece : Piece) → IsChain (start_point piece) (piece_codes (codes_of bytes) piece)
  piece-chain piece =
      subst (IsChain (start_point piece)) (sym (piece-codes-is bytes piece))
      (chain-front (start_point piece) (before_in piece.end (codes_after bytes piece.start)) (from_in piece.end (codes_after bytes piece.start)) (subst (IsChain (start_point piece)) (split-at (start_point piece) (codes_after bytes piece.start) piece.end (after-chain piece)) (after-chain piece)))

  piece-next : (piece : Piece) → AreNext (piece_codes (codes_of bytes) piece)
  piece-next piece = chain-next (start_point piece) (piece_codes (codes_of bytes) piece) (piece-chain piece)

  -- Where a piece begins and ends.

  stop-over : (p q : Point) (xs : List Code) (c : Code) (cs : List Code) → stop_of p (xs ++ c ∷ cs) ≡ stop_of q (c ∷ cs)
  stop-over p q [] c cs = refl
  stop-over p q (x ∷ xs) c cs = stop-over x.stop q xs c cs

  ends-at : (piece : Piece) (c : Code) (cs : List Code) → IsThere bytes piece.end →
      piece_codes (codes_of bytes) piece ≡ c ∷ cs → place_of (stop_of c.stop cs) ≡ piece.end
  ends-at piece c cs t e = grind (arith, document-split bytes piece.start, filter-append, piece-codes-is bytes piece, stop-over, t)

  first-of : (p : Point) (at : ℕ × ℕ) (cs : List Code) (d : Code) (ds : List Code) → IsChain p cs →
      before_in at cs ≡ d ∷ ds → d.start ≡ p
  first-of p at [] d ds h e = cc
  first-of p at (c ∷ cs) d ds h e = grind (arith, before_in-none)

  begins-at : (piece : Piece) (d : Code) (ds : List Code) → IsThere bytes piece.start →
      piece_codes (codes_of bytes) piece ≡ d ∷ ds → place_of d.start ≡ piece.start
  begins-at piece d ds t e =
      ap place_of (first-of (start_point piece) piece.end (codes_after bytes piece.start) d ds (after-chain piece) (sym (piece-codes-is bytes piece) ∙ e)) ∙ t.place

  -- A piece and the next one.

  last-follows : (p : ℕ × ℕ) (c : Code) (cs : List Code) (d : Code) (ds : List Code) → ends_line (c ∷ cs) ≡ true →
      place_of (stop_of c.stop cs) ≡ p → is_at_or_after p (place_of d.start) ≡ true → is_one_line bytes p (place_of d.start) ≡ true → Border (c ∷ cs) (d ∷ ds)
  last-follows p c [] d ds h e after line = grind arith
  last-follows p c (x ∷ cs) d ds h e after line = last-follows p x cs d ds h e after line

  no-codes : ends_line [] ≡ true → ⊥
  no-codes e = cc

  -- the next piece has the first of the codes behind
  first-behind : (piece : Piece) (more : List Piece) → are_pieces bytes (piece ∷ more) ≡ true → (d : Code) (ds : List Code) →
      content_of bytes (piece ∷ more) ≡ d ∷ ds → place_of d.start ≡ piece.start
  first-behind piece more all d ds e = by_codes (piece_codes (codes_of bytes) piece) refl more all e
    where
      t : IsThere bytes piece.start
      t = there bytes piece.start (piece_row bytes piece more all).start

      heads : {x y : Code} {xs ys : List Code} → x ∷ xs ≡ y ∷ ys → x ≡ y
      heads l = cc

      by_codes : (cs : List Code) → piece_codes (codes_of bytes) piece ≡ cs → (rest : List Piece) → are_pieces bytes (piece ∷ rest) ≡ true →
          content_of bytes (piece ∷ rest) ≡ d ∷ ds → place_of d.start ≡ piece.start
      by_codes [] k [] al l = let no : [] ≡ d ∷ ds = sym (ap (λ xs. xs ++ []) k) ∙ l in cc
      by_codes [] k (n ∷ m) al l = absurd (no-codes (ap ends_line (sym k) ∙ (followed_by bytes piece n m al).ends))
      by_codes (c ∷ cs) k rest al l = grind (arith, heads, begins-at, t)

  border : (piece next : Piece) (more : List Piece) → are_pieces bytes (piece ∷ next ∷ more) ≡ true →
      Border (piece_codes (codes_of bytes) piece) (content_of bytes (next ∷ more))
  border piece next more all =
      by_codes (piece_codes (codes_of bytes) piece) refl (content_of bytes (next ∷ more)) refl
    where
      row : IsPieceRow bytes piece (next ∷ more)
      row = piece_row bytes piece (next ∷ more) all

      test : (ends_line (piece_codes (codes_of bytes) piece) && (is_at_or_after piece.end next.start && is_one_line bytes piece.end next.start)) ≡ true
      test = (and_parts (is_piece bytes piece && are_pieces bytes (next ∷ more)) (ends_line (piece_codes (codes_of bytes) piece) && (is_at_or_after piece.end next.start && is_one_line bytes piece.end next.start)) all).1

      parts : (ends_line (piece_codes (codes_of bytes) piece) ≡ true) × ((is_at_or_after piece.end next.start && is_one_line bytes piece.end next.start) ≡ true)
      parts = and_parts (ends_line (piece_codes (codes_of bytes) piece)) (is_at_or_after piece.end next.start && is_one_line bytes piece.end next.start) test

      both : (is_at_or_after piece.end next.start ≡ true) × (is_one_line bytes piece.end next.start ≡ true)
      both = and_parts (is_at_or_after piece.end next.start) (is_one_line bytes piece.end next.start) parts.1

      by_codes : (cs : List Code) → piece_codes (codes_of bytes) piece ≡ cs → (ds : List Code) → content_of bytes (next ∷ more) ≡ ds → Border cs ds
      by_codes [] k ds l = tt
      by_codes (c ∷ cs) k [] l = nothing c cs
        where
          nothing : (x : Code) (xs : List Code) → Border (x ∷ xs) []
          nothing x [] = tt
          nothing x (y ∷ ys) = nothing y ys
      by_codes (c ∷ cs) k (d ∷ ds) l =
          let begins : place_of d.start ≡ next.start = first-behind next more row.others d ds l in
          last-follows piece.end c cs d ds (ap ends_line (sym k) ∙ parts.0) (ends-at piece c cs (there bytes piece.end row.end) k)
          (ap (λ (x : ℕ × ℕ). is_at_or_after piece.end x) begins ∙ both.0) (ap (λ (x : ℕ × ℕ). is_one_line bytes piece.end x) begins ∙ both.1)

  pub content-next : (pieces : List Piece) → are_pieces bytes pieces ≡ true → AreNext (content_of bytes pieces)
  content-next [] h = tt
  content-next (piece ∷ []) h = subst AreNext (sym (append-nil (piece_codes (codes_of bytes) piece))) (piece-next piece)
  content-next (piece ∷ next ∷ more) h =
      next-join (piece_codes (codes_of bytes) piece) (content_of bytes (next ∷ more)) (piece-next piece) (content-next (next ∷ more) (piece_row bytes piece (next ∷ more) h).others) (border piece next more h)
