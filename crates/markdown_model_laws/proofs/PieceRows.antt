-- Pieces that stand one after another over codes of a content, joined where they meet.
use Rattle.std.proofs.Common.{◌≡◌, ℕ, Bool, true, false, not, ◌&&◌, ◌==◌, if◌then◌else◌, cond, ◌⊎◌, inl, inr, List, [], ◌∷◌, ◌++◌, refl, sym, ap, subst, ◌∙◌, arith, append-nil}
use Rattle.std.specs.List.{All}
use Rattle.std.proofs.lemmas.List.Elements.{All-nil, All-cons}
use Rattle.std.proofs.lemmas.Bool.{and_parts, and_from, both_ways, eq-eqb, eqb-true}
use Rattle.std.proofs.lemmas.Bool.Decides.{nat_tests}
use Rattle.markdown_event.specs.declared.event.Point.{Point}
use Rattle.markdown_content.specs.declared.parser.Piece.{Piece}
use Rattle.markdown_content.specs.Codes.{Code, codes_of, document_start, is_at_or_after, place_of, stop_of}
use Rattle.markdown_content.specs.Content.{piece_codes, is_place, are_pieces, ends_line, is_one_line}
use Rattle.markdown_content.proofs.AdjacentCodes.{IsChain, before_in, from_in, from_in-all}
use Rattle.markdown_content.proofs.PlaceOrder.{is_before, before-asym, not_before-trans}
use Rattle.markdown_content.proofs.WalkSteps.{not_past-back}
use Rattle.markdown_content.proofs.DocumentPlaces.{chain-document, same-pair}
use Rattle.markdown_content.proofs.ContentCodes.{piece-codes-is, piece_row, IsPieceRow}
use Rattle.markdown_model_laws.specs.LeafPieces.{meets, onto_pieces, joined_pieces}
use Rattle.markdown_model_laws.proofs.PieceBorders.{AreNext, Border, next-parts}

-- Lines.

module _ (p q end : ℕ × ℕ) (h : is_before q p ≡ false) where
  abbrev EndsTheLine : List Code → Type 0
  EndsTheLine cs = ends_line (before_in end cs) ≡ true

  -- codes from an earlier place on end a line where those from a later one do
  longer-codes : (x : Point) (cs : List Code) → IsChain x cs → EndsTheLine (from_in q cs) → EndsTheLine (from_in p cs)
  longer-codes x [] c e = e
  longer-codes x (d ∷ cs) c e = by_test (is_before (place_of x) q) refl (longer-codes d.stop cs c.2)
    where
      -- the later place is in front
      in-front : is_before (place_of x) q ≡ false → EndsTheLine (from_in p (d ∷ cs))
      in-front k = grind (arith, from_in-all x (d ∷ cs) q c k, from_in-all x (d ∷ cs) p c (not_before-trans (place_of x) q p k h), not_before-trans (place_of x) q p k h)

      skipped : (b : Bool) → b ≡ true → cond (not b) (d ∷ from_in q cs) (from_in q cs) ≡ from_in q cs
      skipped true l = refl
      skipped false l = cc

      behind : is_before (place_of x) q ≡ true → (EndsTheLine (from_in q cs) → EndsTheLine (from_in p cs)) → EndsTheLine (from_in p (d ∷ cs))
      behind k rest = grind (arith, skipped)

      by_test : (b : Bool) → is_before (place_of x) q ≡ b → (EndsTheLine (from_in q cs) → EndsTheLine (from_in p cs)) → EndsTheLine (from_in p (d ∷ cs))
      by_test true k rest = behind k rest
      by_test false k rest = in-front k

module _ (bytes : List ℕ) where
  longer-ends : (p q end : ℕ × ℕ) → is_before q p ≡ false → ends_line (piece_codes (codes_of bytes) (record { start = q; end = end })) ≡ true →
      ends_line (piece_codes (codes_of bytes) (record { start = p; end = end })) ≡ true
  longer-ends p q end h e =
      ap ends_line (piece-codes-is bytes (record { start = p; end = end }))
      ∙ longer-codes p q end h document_start (codes_of bytes) (chain-document bytes) (sym (ap ends_line (piece-codes-is bytes (record { start = q; end = end }))) ∙ e)

  -- Pieces with their codes.

  -- the codes of a piece, one at least
  pub record IsFilledPiece (p : Piece) (c : Code) (cs : List Code) : Type 0 where
    pub start : p.start ≡ place_of c.start
    pub end : p.end ≡ place_of (stop_of c.stop cs)
    pub from_place : is_place bytes p.start ≡ true
    pub to_place : is_place bytes p.end ≡ true
    pub in_order : is_before p.start p.end ≡ true
    pub codes : piece_codes (codes_of bytes) p ≡ c ∷ cs

  abbrev pub IsPieceOver : Piece → List Code → Type 0
  IsPieceOver p [] = meets p p ≡ true
  IsPieceOver p (c ∷ cs) = IsFilledPiece p c cs

  -- pieces over codes, one after another
  abbrev pub ArePiecesOver : List Piece → List Code → Type 0
  ArePiecesOver [] cs = cs ≡ []
  ArePiecesOver (p ∷ ps) cs = (xs : List Code) × (ys : List Code) × (cs ≡ xs ++ ys) × IsPieceOver p xs × ArePiecesOver ps ys

  -- Joined.

  abbrev HeadAt : List Code → List Piece → Type 0
  HeadAt [] ps = ps ≡ []
  HeadAt (d ∷ ds) [] = ⊥
  HeadAt (d ∷ ds) (q ∷ qs) = q.start ≡ place_of d.start

  record IsRowDone (cs : List Code) (ps : List Piece) : Type 0 where
    all : are_pieces bytes ps ≡ true
    head : HeadAt cs ps

  abbrev is_followed : Piece → List Piece → Bool
  is_followed p [] = true
  is_followed p (n ∷ m) = ends_line (piece_codes (codes_of bytes) p) && (is_at_or_after p.end n.start && is_one_line bytes p.end n.start)

  pieces-from : (p : Piece) (ps : List Piece) → is_place bytes p.start ≡ true → is_place bytes p.end ≡ true → is_before p.end p.start ≡ false
      → are_pieces bytes ps ≡ true → is_followed p ps ≡ true → are_pieces bytes (p ∷ ps) ≡ true
  pieces-from p ps h k order all f = grind (arith, and_from, not_past-back)

  -- of two codes that follow each other, at the last of a list
  record Breaks (c : Code) (cs : List Code) (d : Code) : Type 0 where
    ends : ends_line (c ∷ cs) ≡ true
    after : is_at_or_after (place_of (stop_of c.stop cs)) (place_of d.start) ≡ true
    line : is_one_line bytes (place_of (stop_of c.stop cs)) (place_of d.start) ≡ true

  at-border : (c : Code) (cs : List Code) (d : Code) (ds : List Code) → Border bytes (c ∷ cs) (d ∷ ds) →
      (place_of (stop_of c.stop cs) ≡ place_of d.start) ⊎ Breaks c cs d
  at-border c [] d ds (inl e) = inl e
  at-border c [] d ds (inr b) = inr (record { ends = b.ending; after = b.after; line = b.line })
  at-border c (x ∷ cs) d ds h = grind (arith, at-border x cs d ds h)

  places-meet : (p q : Piece) → meets p q ≡ true → p.end ≡ q.start
  places-meet p q h = grind (arith, and_parts (p.end.0 == q.start.0) (p.end.1 == q.start.1) h, same-pair, eqb-true)

  meet-places : (p q : Piece) → p.end ≡ q.start → meets p q ≡ true
  meet-places p q e = grind (arith, and_from, eq-eqb)

  module _ (p : Piece) (c : Code) (cs : List Code) (one : IsFilledPiece p c cs) where
    order : is_before p.end p.start ≡ false
    order = before-asym p.start p.end one.in_order

    alone : IsRowDone (c ∷ cs) (p ∷ [])
    alone = record { all = pieces-from p [] one.from_place one.to_place order refl refl; head = one.start }

    -- in front of a piece that it meets
    met : (q : Piece) (more : List Piece) → are_pieces bytes (q ∷ more) ≡ true → meets p q ≡ true →
        are_pieces bytes (record { start = p.start; end = q.end } ∷ more) ≡ true
    met q more all m =
        pieces-from (record { start = p.start; end = q.end }) more one.from_place row.end (not_before-trans q.end q.start p.start row.in_order earlier) row.others (by_rest more all)
      where
        row : IsPieceRow bytes q more
        row = piece_row bytes q more all

        earlier : is_before q.start p.start ≡ false
        earlier = ap (λ (x : ℕ × ℕ). is_before x p.start) (sym (places-meet p q m)) ∙ order

        by_rest : (qs : List Piece) → are_pieces bytes (q ∷ qs) ≡ true → is_followed (record { start = p.start; end = q.end }) qs ≡ true
        by_rest [] al = refl
        by_rest (n ∷ l) al = grind (arith, and_parts, and_from, longer-ends, earlier)

    -- in front of one on the next line
    apart : (q : Piece) (more : List Piece) (d : Code) → are_pieces bytes (q ∷ more) ≡ true → q.start ≡ place_of d.start → Breaks c cs d →
        are_pieces bytes (p ∷ q ∷ more) ≡ true
    apart q more d all e b =
        pieces-from p (q ∷ more) one.from_place one.to_place order all
        (and_from (ends_line (piece_codes (codes_of bytes) p)) (is_at_or_after p.end q.start && is_one_line bytes p.end q.start) (ap ends_line one.codes ∙ b.ends)
        (and_from (is_at_or_after p.end q.start) (is_one_line bytes p.end q.start) ((λ i. is_at_or_after (one.end i) (e i)) ∙ b.after) ((λ i. is_one_line bytes (one.end i) (e i)) ∙ b.line)))

    onto-done : (ds : List Code) (qs : List Piece) → Border bytes (c ∷ cs) ds → IsRowDone ds qs →
        IsRowDone ((c ∷ cs) ++ ds) (onto_pieces p qs)
    onto-done [] [] b h = subst (λ xs. IsRowDone xs (p ∷ [])) (sym (append-nil (c ∷ cs))) alone
    onto-done [] (q ∷ qs) b h = let no : q ∷ qs ≡ [] = h.head in cc
    onto-done (d ∷ ds) [] b h = absurd h.head
    onto-done (d ∷ ds) (q ∷ qs) b h = by_test (meets p q) refl
      where
        by_test : (t : Bool) → meets p q ≡ t → IsRowDone ((c ∷ cs) ++ d ∷ ds) (if t then record { start = p.start; end = q.end } ∷ qs else p ∷ q ∷ qs)
        by_test true m = record { all = met q qs h.all m; head = one.start }
        by_test false m = grind (arith, at-border, both_ways, meet-places, apart)

  -- a piece with a code does not end where it begins
  not-still : (p : Piece) → is_before p.start p.end ≡ true → meets p p ≡ false
  not-still p h = grind (arith, nat_tests)

  row-done : (ps : List Piece) (cs : List Code) → ArePiecesOver ps cs → AreNext bytes cs → IsRowDone cs (joined_pieces ps)
  row-done [] cs h n = subst (λ xs. IsRowDone xs []) (sym h) (record { all = refl; head = refl })
  row-done (p ∷ ps) cs (xs, ys, e, one, rest) n =
      let parts : AreNext bytes ys × Border bytes xs ys = next-parts bytes xs ys (subst (AreNext bytes) e n) in
      subst (λ zs. IsRowDone zs (joined_pieces (p ∷ ps))) (sym e) (by_codes xs one parts.1 (row-done ps ys rest parts.0))
    where
      by_codes : (zs : List Code) → IsPieceOver p zs → Border bytes zs ys → IsRowDone ys (joined_pieces ps) → IsRowDone (zs ++ ys) (joined_pieces (p ∷ ps))
      by_codes [] o b k = rw o k
      by_codes (c ∷ zs) o b k = rw (not-still p o.in_order) (onto-done p c zs o ys (joined_pieces ps) b k)

  -- the joined pieces of a row are those of a content
  pub joined-content : (ps : List Piece) (cs : List Code) → ArePiecesOver ps cs → AreNext bytes cs → are_pieces bytes (joined_pieces ps) ≡ true
  joined-content ps cs h n = (row-done ps cs h n).all

-- Something said of both ends of each piece is said of those of the joined ones.

module _ (B : ℕ × ℕ → Type 0) where
  abbrev HoldsAtBothEnds : Piece → Type 0
  HoldsAtBothEnds p = B p.start × B p.end

  abbrev pub EachPieceMeets : List Piece → Type 0
  EachPieceMeets [] = Unit {0}
  EachPieceMeets (p ∷ ps) = (meets p p ≡ false → HoldsAtBothEnds p) × EachPieceMeets ps

  abbrev AllBoth : List Piece → Type 0
  AllBoth [] = Unit {0}
  AllBoth (p ∷ ps) = HoldsAtBothEnds p × AllBoth ps

  onto-both : (p : Piece) (qs : List Piece) → HoldsAtBothEnds p → AllBoth qs → AllBoth (onto_pieces p qs)
  onto-both p qs h0 h1 = grind arith

  joined-both : (ps : List Piece) → EachPieceMeets ps → AllBoth (joined_pieces ps)
  joined-both [] h = tt
  joined-both (p ∷ ps) h = grind (arith, joined-both ps h.1, onto-both)

  all-both : (ps : List Piece) → AllBoth ps → All HoldsAtBothEnds ps
  all-both [] h = All-nil HoldsAtBothEnds
  all-both (p ∷ ps) h = All-cons HoldsAtBothEnds p ps h.0 (all-both ps h.1)

  pub each-joined : (ps : List Piece) → EachPieceMeets ps → All HoldsAtBothEnds (joined_pieces ps)
  each-joined ps h = all-both (joined_pieces ps) (joined-both ps h)
