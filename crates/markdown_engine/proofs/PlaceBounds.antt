-- How many codes there are, and how large their places.
use Rattle.std.proofs.Common.{ℕ, ◌+◌, ◌*◌, ◌<◌, ◌≤◌, ◌^◌, true, false, ◌≡◌, arith, List, [], ◌∷◌, length, refl, sym, ap, subst, ◌∙◌, inl, inr, append-nil, length-append}
use Rattle.markdown_event.specs.declared.event.Point.{Point}
use Rattle.markdown_content.specs.declared.parser.Piece.{Piece}
use Rattle.markdown_content.specs.Codes.{Code, codes_of, document_start, place_of, point_at}
use Rattle.markdown_content.specs.Content.{IsContent, content_of, are_pieces, piece_codes}
use Rattle.markdown_content.specs.Place.{start_of_content}
use Rattle.markdown_content.specs.DocumentWalk.{IsPoint}
use Rattle.markdown_engine.specs.Weights.{left_at}
use Rattle.markdown_content.proofs.PlaceOrder.{is_before}
use Rattle.markdown_content.proofs.AdjacentCodes.{cons≢nil, tail_same}
use Rattle.markdown_content.proofs.DocumentCodes.{code_here, stop_at}
use Rattle.markdown_content.proofs.DocumentWalkLemmas.{few-end, few-at, stands-start}
use Rattle.markdown_content.proofs.DocumentPlaces.{stands-point, stands-there, there, IsThere}
use Rattle.markdown_content.proofs.ContentCodes.{piece_row, IsPieceRow, followed_by, piece-codes-is}
use Rattle.markdown_content.proofs.CodesBetween.{codes_to, to-cases}
use Rattle.markdown_content.proofs.CursorInvariant.{before-keys}

-- The codes of a document.

pub document_few : (bytes : List ℕ) → length (codes_of bytes) ≤ 4 * length bytes
document_few bytes =
    let few : length (codes_of bytes) + 4 * 0 + 0 ≤ 4 * length bytes = few-at bytes document_start (codes_of bytes) (stands-start bytes) refl in
    omega arith

-- The codes of a content.

few-between : (bytes : List ℕ) (p q : Point) (cs : List Code) → codes_to bytes p q ≡ cs → IsPoint bytes p →
    IsPoint bytes q → is_before (place_of q) (place_of p) ≡ false →
    length cs + (4 * p.index + p.vs) ≤ 4 * q.index + q.vs
few-between bytes p q [] e h k l =
    elim (to-cases bytes p q h k l) [
      | inl f ↦ absurd (cons≢nil (code_here bytes p) (codes_to bytes (stop_at bytes p) q) (sym f.codes ∙ e))
      | inr a ↦ omega (arith, a.index, a.vs)
    ]
few-between bytes p q (c ∷ cs) e h k l =
    elim (to-cases bytes p q h k l) [
      | inl f ↦
          let rest : codes_to bytes (stop_at bytes p) q ≡ cs = sym (tail_same c (code_here bytes p) cs (codes_to bytes (stop_at bytes p) q) (sym e ∙ f.codes)) in
          let less : length cs + (4 * (stop_at bytes p).index + (stop_at bytes p).vs) ≤ 4 * q.index + q.vs = few-between bytes (stop_at bytes p) q cs rest f.point k f.reached in
          omega (arith, f.counts)
      | inr a ↦ absurd (cons≢nil c cs (sym e ∙ a.none))
    ]

few-as : (n m : ℕ) (a b c d : ℕ × ℕ) → n + (4 * a.0 + a.1) ≤ 4 * b.0 + b.1 → m ≡ n → a ≡ c → b ≡ d →
    m + (4 * c.0 + c.1) ≤ 4 * d.0 + d.1
few-as n m a b c d h e f g =
    subst (λ (x : ℕ). x + (4 * c.0 + c.1) ≤ 4 * d.0 + d.1) (sym e) (subst (λ (x : ℕ × ℕ). n + (4 * c.0 + c.1) ≤ 4 * x.0 + x.1) g (subst (λ (x : ℕ × ℕ). n + (4 * x.0 + x.1) ≤ 4 * b.0 + b.1) f h))

few-piece : (bytes : List ℕ) (piece : Piece) → IsThere bytes piece.start → IsThere bytes piece.end →
    is_before piece.end piece.start ≡ false →
    length (piece_codes (codes_of bytes) piece) + (4 * piece.start.0 + piece.start.1) ≤ 4 * piece.end.0 + piece.end.1
few-piece bytes piece s t h =
    let p : Point = point_at bytes piece.start in
    let q : Point = point_at bytes piece.end in
    let order : is_before (place_of q) (place_of p) ≡ false = ap (λ (x : ℕ × ℕ). is_before x (place_of p)) t.place ∙ ap (λ (x : ℕ × ℕ). is_before piece.end x) s.place ∙ h in
    let few : length (codes_to bytes p q) + (4 * p.index + p.vs) ≤ 4 * q.index + q.vs = few-between bytes p q (codes_to bytes p q) refl s.point t.point order in
    let codes : piece_codes (codes_of bytes) piece ≡ codes_to bytes p q = sym (ap (λ (x : ℕ × ℕ). piece_codes (codes_of bytes) (record { start = x; end = place_of q })) s.place ∙ ap (λ (x : ℕ × ℕ). piece_codes (codes_of bytes) (record { start = piece.start; end = x })) t.place) ∙ piece-codes-is bytes (record { start = place_of p; end = place_of q }) in
    few-as (length (codes_to bytes p q)) (length (piece_codes (codes_of bytes) piece)) (place_of p) (place_of q) piece.start piece.end few (ap length codes) s.place t.place

end-few : (bytes : List ℕ) (at : ℕ × ℕ) → IsThere bytes at → 4 * at.0 + at.1 ≤ 4 * length bytes
end-few bytes at t =
    let p : Point = point_at bytes at in
    let few : 0 + 4 * p.index + p.vs ≤ 4 * length bytes = few-end bytes p (stands-point bytes p t.point) in
    subst (λ (x : ℕ × ℕ). 4 * x.0 + x.1 ≤ 4 * length bytes) t.place (omega arith)

few-row : (bytes : List ℕ) (piece : Piece) (more : List Piece) → are_pieces bytes (piece ∷ more) ≡ true →
    length (content_of bytes (piece ∷ more)) + (4 * piece.start.0 + piece.start.1) ≤ 4 * length bytes
few-row bytes piece [] h =
    let row : IsPieceRow bytes piece [] = piece_row bytes piece [] h in
    let t : IsThere bytes piece.end = there bytes piece.end row.end in
    let few : length (piece_codes (codes_of bytes) piece) + (4 * piece.start.0 + piece.start.1) ≤ 4 * piece.end.0 + piece.end.1 = few-piece bytes piece (there bytes piece.start row.start) t row.in_order in
    let end : 4 * piece.end.0 + piece.end.1 ≤ 4 * length bytes = end-few bytes piece.end t in
    let n : length (content_of bytes (piece ∷ [])) ≡ length (piece_codes (codes_of bytes) piece) = ap length (append-nil (piece_codes (codes_of bytes) piece)) in
    omega arith
few-row bytes piece (next ∷ more) h =
    let row : IsPieceRow bytes piece (next ∷ more) = piece_row bytes piece (next ∷ more) h in
    let few : length (piece_codes (codes_of bytes) piece) + (4 * piece.start.0 + piece.start.1) ≤ 4 * piece.end.0 + piece.end.1 = few-piece bytes piece (there bytes piece.start row.start) (there bytes piece.end row.end) row.in_order in
    let others : length (content_of bytes (next ∷ more)) + (4 * next.start.0 + next.start.1) ≤ 4 * length bytes = few-row bytes next more row.others in
    let small : piece.end.1 ≤ 3 = (stands-there bytes piece.end (there bytes piece.end row.end)).1 in
    let order : 4 * piece.end.0 + piece.end.1 ≤ 4 * next.start.0 + next.start.1 = before-keys piece.end.0 piece.end.1 next.start.0 next.start.1 (followed_by bytes piece next more h).after small in
    let n : length (content_of bytes (piece ∷ next ∷ more)) ≡ length (piece_codes (codes_of bytes) piece) + length (content_of bytes (next ∷ more)) = length-append (piece_codes (codes_of bytes) piece) (content_of bytes (next ∷ more)) in
    omega arith

-- a content has at most four codes a byte of its document
pub content_few : (bytes : List ℕ) (pieces : List Piece) → IsContent bytes pieces →
    length (content_of bytes pieces) ≤ 4 * length bytes
content_few bytes [] h = omega arith
content_few bytes (piece ∷ more) h =
    let few : length (content_of bytes (piece ∷ more)) + (4 * piece.start.0 + piece.start.1) ≤ 4 * length bytes = few-row bytes piece more h.in_order in
    omega arith

-- so their number fits a `usize`
pub content_fits : (bytes : List ℕ) (pieces : List Piece) → IsContent bytes pieces →
    length (content_of bytes pieces) < 2 ^ 63
content_fits bytes pieces h = omega (arith, content_few bytes pieces h, h.fits)

-- and so does the number of those that a run begins with
pub codes-fit : (bytes : List ℕ) (pieces : List Piece) → IsContent bytes pieces →
    left_at (start_of_content bytes pieces) < 2 ^ 64
unfolding left_at start_of_content
codes-fit bytes pieces h = omega (arith, content_fits bytes pieces h)
