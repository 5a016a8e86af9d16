-- A piece of a document stands where its codes stand.
use Rattle.std.proofs.Common.{◌≡◌, ◌∙◌, sym, ap, subst, refl, ℕ, List, [], ◌∷◌, ◌++◌, Bool, true, false, ◌&&◌, filter}
use Rattle.std.proofs.lemmas.List.Elements.{filter-append}
use Rattle.markdown_event.specs.declared.event.Point.{Point}
use Rattle.markdown_content.specs.Codes.{Code, codes_of, place_of, stop_of, point_at, document_start, is_code_before}
use Rattle.markdown_content.specs.Content.{is_piece, piece_codes}
use Rattle.markdown_content.specs.DocumentWalk.{codes_after}
use Rattle.markdown_content.specs.declared.parser.Piece.{Piece}
use Rattle.markdown_content.proofs.AdjacentCodes.{IsChain, before_in, from_in, split-at}
use Rattle.markdown_content.proofs.ContentCodes.{IsPieceRow, piece_row, piece-codes-is}
use Rattle.markdown_content.proofs.DocumentCodes.{codes_at}
use Rattle.markdown_content.proofs.DocumentPlaces.{IsThere, there, document-split, codes-point, stands-point}
use Rattle.markdown_content.proofs.DocumentWalkLemmas.{chain-at}
use Rattle.markdown_content.proofs.PlaceOrder.{is_before, before-reach}
use Rattle.markdown_blocks.specs.CodePieces.{piece_at, piece_of_codes}

-- what stands before a place stands before each later one
both-before : (low at : ℕ × ℕ) (cs : List Code) → is_before at low ≡ false → before_in at (before_in low cs) ≡ before_in low cs
both-before low at [] h = refl
both-before low at (c ∷ cs) h = by_case (is_code_before low c) refl (both-before low at cs h)
  where
    by_case : (b : Bool) → is_code_before low c ≡ b → before_in at (before_in low cs) ≡ before_in low cs → before_in at (before_in low (c ∷ cs)) ≡ before_in low (c ∷ cs)
    by_case true e more =
        let here : is_code_before at c ≡ true = before-reach (place_of c.start) low at e h in
        rw e (rw here (ap (λ (xs : List Code). c ∷ xs) more))
    by_case false e more = rw e more

stop-both : (p : Point) (front back : List Code) → stop_of p (front ++ back) ≡ stop_of (stop_of p front) back
stop-both p [] back = refl
stop-both p (c ∷ cs) back = stop-both c.stop cs back

-- from its start on stand its codes, and it ends behind them
pub piece-stands : (bytes : List ℕ) (piece : Piece) (cs : List Code) → is_piece bytes piece ≡ true → piece_codes (codes_of bytes) piece ≡ cs
    → piece ≡ piece_at (point_at bytes piece.start) cs
piece-stands bytes piece cs h e =
    let row : IsPieceRow bytes piece [] = piece_row bytes piece [] (ap (λ v. (v && true) && true) h) in
    let s : IsThere bytes piece.start = there bytes piece.start row.start in
    let t : IsThere bytes piece.end = there bytes piece.end row.end in
    let front : List Code = before_in piece.start (codes_of bytes) in
    let mine : filter (is_code_before piece.end) (codes_after bytes piece.start) ≡ cs = sym (piece-codes-is bytes piece) ∙ e in
    let whole : before_in piece.end (codes_of bytes) ≡ front ++ cs =
    ap (before_in piece.end) (document-split bytes piece.start) ∙ filter-append (is_code_before piece.end) front (codes_after bytes piece.start)
    ∙ ap (λ (xs : List Code). xs ++ before_in piece.end (codes_after bytes piece.start)) (both-before piece.start piece.end (codes_of bytes) row.in_order)
    ∙ ap (λ (xs : List Code). front ++ xs) mine
    in
    let stop : point_at bytes piece.end ≡ stop_of (point_at bytes piece.start) cs = ap (stop_of document_start) whole ∙ stop-both document_start front cs in
    let end : piece.end ≡ place_of (stop_of (point_at bytes piece.start) cs) = sym t.place ∙ ap (λ (x : Point). place_of x) stop in
    ap (λ (x : ℕ × ℕ). let q : Piece = record { start = x; end = piece.end } in q) (sym s.place)
    ∙ ap (λ (x : ℕ × ℕ). let q : Piece = record { start = place_of (point_at bytes piece.start); end = x } in q) end

-- where the first of them begins
first-stands : (bytes : List ℕ) (piece : Piece) (c : Code) (cs : List Code) → is_piece bytes piece ≡ true → piece_codes (codes_of bytes) piece ≡ c ∷ cs → c.start ≡ point_at bytes piece.start
first-stands bytes piece c cs h e =
    let row : IsPieceRow bytes piece [] = piece_row bytes piece [] (ap (λ v. (v && true) && true) h) in
    let s : IsThere bytes piece.start = there bytes piece.start row.start in
    let p : Point = point_at bytes piece.start in
    let xs : List Code = codes_after bytes piece.start in
    let at : codes_at bytes p ≡ xs = codes-point bytes p s.point ∙ ap (λ (x : ℕ × ℕ). codes_after bytes x) s.place in
    let chain : IsChain p xs = chain-at bytes p xs (stands-point bytes p s.point) at in
    let split : xs ≡ c ∷ (cs ++ from_in piece.end xs) = split-at p xs piece.end chain ∙ ap (λ (ys : List Code). ys ++ from_in piece.end xs) (sym (piece-codes-is bytes piece) ∙ e) in
    (subst (λ (ys : List Code). IsChain p ys) split chain).0

-- so a piece that has codes is the piece of its codes
pub piece-of-codes : (bytes : List ℕ) (piece : Piece) (c : Code) (cs : List Code) → is_piece bytes piece ≡ true → piece_codes (codes_of bytes) piece ≡ c ∷ cs → piece ≡ piece_of_codes c cs
piece-of-codes bytes piece c cs h e =
    piece-stands bytes piece (c ∷ cs) h e ∙ ap (λ (x : Point). piece_at x (c ∷ cs)) (sym (first-stands bytes piece c cs h e))
