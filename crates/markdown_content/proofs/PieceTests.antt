-- The pieces of a content, tested one after another.
use Rattle.std.proofs.Common.{ℕ, ◌+◌, ◌<◌, Bool, true, false, not, ◌&&◌, ◌≡◌, List, ◌∷◌, length, drop, get_or, filter, refl, sym, ap, subst, ◌∙◌, IsTrue, Option, Some, None, arith}
use Rattle.std.proofs.Math.Bool.{and-true}
use Rattle.std.specs.List.{list_any}
use Rattle.std.proofs.lemmas.List.{drop_more}
use Rattle.std.proofs.lemmas.Bool.{both_ways, and_parts, and_from, and_left, and_right, not_from_true, not_from_false, false_from_ne_true}
use Rattle.markdown_content.specs.declared.content.Stretch.{Stretch}
use Rattle.markdown_event.specs.declared.event.Point.{Point}
use Rattle.markdown_content.specs.declared.parser.Piece.{Piece}
use Rattle.markdown_content.specs.Codes.{Code, codes_of, place_of, is_code_before, is_line_ending, is_at_or_after}
use Rattle.markdown_content.specs.Content.{is_place, is_piece, are_pieces, piece_codes, ends_line, is_one_line}
use Rattle.markdown_content.specs.DocumentWalk.{codes_after, IsPoint}
use Rattle.markdown_content.specs.ContentTest.{codes_up, IsStretchTo, IsPieceEnd, ReachesStretch, PassesPiece, PassesNext, may_follow}
use Rattle.markdown_content.proofs.PlaceOrder.{is_before, before-self}
use Rattle.markdown_content.proofs.DocumentPlaces.{there, IsThere}
use Rattle.markdown_content.proofs.WalkSteps.{not_past-back}
use Rattle.markdown_content.proofs.ContentCodes.{piece-codes-is, piece_row, IsPieceRow}

-- One piece.

piece-of : (bytes : List ℕ) (piece : Piece) (rest : List Piece) → are_pieces bytes (piece ∷ rest) ≡ true →
    is_piece bytes piece ≡ true
piece-of bytes piece rest h = grind (arith, piece_row, and_from, not_past-back)

end-of : (bytes : List ℕ) (piece : Piece) → is_piece bytes piece ≡ true → is_place bytes piece.end ≡ true
end-of bytes piece h =
    (and_parts (is_place bytes piece.start) (is_place bytes piece.end) (and_parts (is_place bytes piece.start && is_place bytes piece.end) (is_at_or_after piece.start piece.end) h).0).1

pub piece-no_end : (bytes : List ℕ) (piece : Piece) → is_place bytes piece.end ≡ false → is_piece bytes piece ≡ false
piece-no_end bytes piece h =
    and_left (is_place bytes piece.start && is_place bytes piece.end) (is_at_or_after piece.start piece.end) (and_right (is_place bytes piece.start) (is_place bytes piece.end) h)

-- a piece's start, reached
pub record IsAtStart (bytes : List ℕ) (piece : Piece) (p : Point) : Type 0 where
  pub point : IsPoint bytes p
  pub place : place_of p ≡ piece.start

pub at_start : (bytes : List ℕ) (p : Point) (piece : Piece) (s : Stretch) → IsStretchTo bytes p piece.start s →
    IsAtStart bytes piece s.point
at_start bytes p piece s h = grind (arith, there)

pub start-forward : (bytes : List ℕ) (piece : Piece) (p : Point) → IsAtStart bytes piece p →
    is_before piece.end piece.start ≡ false → IsTrue (is_at_or_after (place_of p) piece.end)
start-forward bytes piece p h k =
    ap (λ (x : ℕ × ℕ). is_at_or_after x piece.end) h.place ∙ not_past-back piece.start piece.end k

pub piece-end : (bytes : List ℕ) (piece : Piece) (p : Point) (s t : Stretch) → IsStretchTo bytes p piece.start s →
    is_before piece.end piece.start ≡ false → IsStretchTo bytes s.point piece.end t → IsPieceEnd bytes piece t
piece-end bytes piece p s t h k e =
    let a : IsAtStart bytes piece s.point = at_start bytes p piece s h in
    let codes : codes_up bytes s.point piece.end ≡ piece_codes (codes_of bytes) piece = ap (λ (x : ℕ × ℕ). filter (is_code_before piece.end) (codes_after bytes x)) a.place ∙ sym (piece-codes-is bytes piece) in
    record {
      piece_is = and_from (is_place bytes piece.start && is_place bytes piece.end) (is_at_or_after piece.start piece.end) (and_from (is_place bytes piece.start) (is_place bytes piece.end) h.place e.place) (not_past-back piece.start piece.end k);
      point = e.point;
      ends = e.ends ∙ ap (λ (cs : List Code). ends_line cs) codes;
    }

pub piece-result : (bytes : List ℕ) (piece : Piece) (p : Point) (s : Stretch) (r : Option Stretch) →
    IsStretchTo bytes p piece.start s → is_before piece.end piece.start ≡ false → ReachesStretch bytes s.point piece.end r →
    PassesPiece bytes piece r
piece-result bytes piece p s None h k e = piece-no_end bytes piece e
piece-result bytes piece p s (Some t) h k e = piece-end bytes piece p s t h k e

-- A piece after another.

one-line-is : (bytes : List ℕ) (p : Point) (at : ℕ × ℕ) →
    not (list_any is_line_ending (codes_up bytes p at)) ≡ is_one_line bytes (place_of p) at
one-line-is bytes p at =
    ap (λ (cs : List Code). not (list_any is_line_ending cs)) (sym (piece-codes-is bytes (record { start = place_of p; end = at })))

pub next-lines : (bytes : List ℕ) (b : Bool) (p : Point) (piece : Piece) (s : Stretch) →
    IsStretchTo bytes p piece.start s → s.has_line_ending ≡ true →
    (may_follow bytes b (place_of p) piece.start && is_piece bytes piece) ≡ false
next-lines bytes b p piece s h k = grind (arith, one-line-is, not_from_true, and_left, and_right)

pub next-result : (bytes : List ℕ) (b : Bool) (p : Point) (piece : Piece) (s : Stretch) (r : Option Stretch) →
    b ≡ true → is_before piece.start (place_of p) ≡ false → IsStretchTo bytes p piece.start s →
    s.has_line_ending ≡ false → PassesPiece bytes piece r → PassesNext bytes b p piece r
next-result bytes b p piece s None ended order h lines e =
    and_right (may_follow bytes b (place_of p) piece.start) (is_piece bytes piece) e
next-result bytes b p piece s (Some t) ended order h lines e =
    let one : is_one_line bytes (place_of p) piece.start ≡ true = sym (one-line-is bytes p piece.start) ∙ not_from_false (list_any is_line_ending (codes_up bytes p piece.start)) (sym h.lines ∙ lines) in
    (and_from b (is_at_or_after (place_of p) piece.start && is_one_line bytes (place_of p) piece.start) ended (and_from (is_at_or_after (place_of p) piece.start) (is_one_line bytes (place_of p) piece.start) (not_past-back (place_of p) piece.start order) one), e)

-- where the next piece starts, it is reached already
pub start-here : (bytes : List ℕ) (piece : Piece) (p : Point) → IsAtStart bytes piece p →
    IsTrue (is_at_or_after (place_of p) piece.start)
start-here bytes piece p h =
    not_past-back (place_of p) piece.start (ap (λ (x : ℕ × ℕ). is_before piece.start x) h.place ∙ before-self piece.start)

-- All pieces.

-- some pieces are left after a last one that is passed, on which nothing else depends
pub record ArePiecesLeft (bytes : List ℕ) (all left : List Piece) (s : Stretch) : Type 0 where
  pub last : Piece
  pub same : are_pieces bytes (last ∷ left) ≡ are_pieces bytes all
  pub end : IsPieceEnd bytes last s

last-place : (bytes : List ℕ) (s : Stretch) (piece : Piece) → IsPieceEnd bytes piece s →
    (place_of s.point ≡ piece.end) × IsPoint bytes s.point
last-place bytes s piece h = grind (arith, there, end-of)

pub passing-point : (bytes : List ℕ) (all left : List Piece) (s : Stretch) → ArePiecesLeft bytes all left s →
    IsPoint bytes s.point
passing-point bytes all left s h = (last-place bytes s h.last h.end).1

-- the pieces from the last one on, by the test of the next
pair-is : (bytes : List ℕ) (last next : Piece) (more : List Piece) → is_piece bytes last ≡ true →
    are_pieces bytes (last ∷ next ∷ more) ≡ (are_pieces bytes (next ∷ more) && may_follow bytes (ends_line (piece_codes (codes_of bytes) last)) last.end next.start)
pair-is bytes last next more h = rw h refl

follow-is : (bytes : List ℕ) (last next : Piece) (s : Stretch) → IsPieceEnd bytes last s →
    may_follow bytes s.ends_line (place_of s.point) next.start ≡ may_follow bytes (ends_line (piece_codes (codes_of bytes) last)) last.end next.start
follow-is bytes last next s h =
    ap (λ (b : Bool). may_follow bytes b (place_of s.point) next.start) h.ends ∙ ap (λ (x : ℕ × ℕ). may_follow bytes (ends_line (piece_codes (codes_of bytes) last)) x next.start) (last-place bytes s last h).0

pub passing-next : (bytes : List ℕ) (all : List Piece) (next : Piece) (more : List Piece) (s t : Stretch) →
    ArePiecesLeft bytes all (next ∷ more) s → PassesNext bytes s.ends_line s.point next (Some t) →
    ArePiecesLeft bytes all more t
passing-next bytes all next more s t h (may, end) = record {
  last = next;
  same = sym (pair-is bytes h.last next more h.end.piece_is ∙ ap (λ (b : Bool). are_pieces bytes (next ∷ more) && b) (sym (follow-is bytes h.last next s h.end) ∙ may) ∙ and-true (are_pieces bytes (next ∷ more))) ∙ h.same;
  end = end;
}

pub passing-none : (bytes : List ℕ) (all : List Piece) (next : Piece) (more : List Piece) (s : Stretch) →
    ArePiecesLeft bytes all (next ∷ more) s → PassesNext bytes s.ends_line s.point next None → are_pieces bytes all ≡ false
passing-none bytes all next more s h none = grind (arith, pair-is, false_from_ne_true, and_parts, both_ways, and_from, follow-is, piece-of)

-- one step of a loop over the pieces after the first

pub passing-step : (bytes : List ℕ) (all rest : List Piece) (k : ℕ) (d : Piece) (s t : Stretch) → k < length rest →
    ArePiecesLeft bytes all (drop k rest) s → PassesNext bytes s.ends_line s.point (get_or rest k d) (Some t) →
    ArePiecesLeft bytes all (drop (k + 1) rest) t
passing-step bytes all rest k d s t lt h e =
    passing-next bytes all (get_or rest k d) (drop (k + 1) rest) s t (subst (λ (x : List Piece). ArePiecesLeft bytes all x s) (drop_more rest k d lt) h) e

pub passing-stop : (bytes : List ℕ) (all rest : List Piece) (k : ℕ) (d : Piece) (s : Stretch) → k < length rest →
    ArePiecesLeft bytes all (drop k rest) s → PassesNext bytes s.ends_line s.point (get_or rest k d) None →
    false ≡ are_pieces bytes all
passing-stop bytes all rest k d s lt h e =
    sym (passing-none bytes all (get_or rest k d) (drop (k + 1) rest) s (subst (λ (x : List Piece). ArePiecesLeft bytes all x s) (drop_more rest k d lt) h) e)
