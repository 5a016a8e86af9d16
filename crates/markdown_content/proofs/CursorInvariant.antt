-- What a cursor keeps true, step by step.
use Rattle.std.proofs.Common.{ℕ, zero, suc, ◌+◌, ◌*◌, ◌<◌, ◌≤◌, Bool, true, false, ◌≡◌, arith, List, [], ◌∷◌, length, drop, slice_get, refl, sym, ap, subst, ◌∙◌, Some, None}
use Rattle.std.proofs.lemmas.List.{drop-drop}
use Rattle.std.proofs.lemmas.Bool.{both_ways}
use Rattle.std.proofs.lemmas.Bool.Decides.{nat_tests}
use Rattle.markdown_event.specs.declared.event.Point.{Point}
use Rattle.markdown_content.specs.declared.parser.Piece.{Piece}
use Rattle.markdown_content.specs.Codes.{Code, place_of, point_at, is_line_ending}
use Rattle.markdown_content.specs.Content.{IsContent, content_of, content_end, are_pieces}
use Rattle.markdown_content.specs.Place.{start_or}
use Rattle.markdown_content.specs.DocumentWalk.{IsPoint}
use Rattle.markdown_content.specs.PlaceInDocument.{is_open, codes_in, IsEntered, EndsLine, IsStanding, first_point, followed}
use Rattle.markdown_content.proofs.PlaceOrder.{is_before}
use Rattle.markdown_content.proofs.DocumentCodes.{stop_at, code_here}
use Rattle.markdown_content.proofs.DocumentPlaces.{stands-point, point_start, vs-small}
use Rattle.markdown_content.proofs.WalkSteps.{not_past}
use Rattle.markdown_content.proofs.ContentCodes.{row-start, IsRowStart, open-row, IsOpenRow, closed-row, closed-codes, forward-row, piece_row, line-stay, line-last}

-- Lists from an index on.

pub drop-some : (n : ℕ) (xs : List Code) (c : Code) (cs : List Code) → drop n xs ≡ c ∷ cs → slice_get xs n ≡ Some c
drop-some zero [] c cs e = cc
drop-some zero (x ∷ xs) c cs e = cc
drop-some (suc n) [] c cs e = cc
drop-some (suc n) (x ∷ xs) c cs e = drop-some n xs c cs e

pub drop-none : (n : ℕ) (xs : List Code) → drop n xs ≡ [] → slice_get xs n ≡ None
drop-none zero [] e = refl
drop-none zero (x ∷ xs) e = cc
drop-none (suc n) [] e = refl
drop-none (suc n) (x ∷ xs) e = drop-none n xs e

pub drop-past : {A : Type 0} (n : ℕ) (xs : List A) (c : A) (cs : List A) → drop n xs ≡ c ∷ cs → drop (n + 1) xs ≡ cs
drop-past n xs c cs e = sym (drop-drop 1 n xs) ∙ ap (λ ys. drop 1 ys) e

-- At a code, and at the end.

pub record IsOpenStanding (bytes : List ℕ) (pieces : List Piece) (p : Point) (passed : ℕ) : Type 0 where
  pub in_bytes : p.index < length bytes
  pub code : slice_get (content_of bytes pieces) passed ≡ Some (code_here bytes p)
  pub point : IsPoint bytes (stop_at bytes p)

open-standing-row : (bytes : List ℕ) (pieces : List Piece) (piece : Piece) (more : List Piece) (p : Point) (n : ℕ) →
    IsStanding bytes pieces (piece ∷ more) p n → is_open (place_of p) (piece ∷ more) ≡ true →
    IsOpenStanding bytes pieces p n
open-standing-row bytes pieces piece more p n s h =
    let row : IsOpenRow bytes p piece more = open-row bytes p piece more s.is_point s.in_order s.within h in
    record {
      in_bytes = row.toward.in_bytes;
      code = drop-some n (content_of bytes pieces) (code_here bytes p) (codes_in bytes (place_of (stop_at bytes p)) (piece ∷ more)) (s.ahead ∙ row.codes);
      point = row.toward.next.point;
    }

pub open-standing : (bytes : List ℕ) (pieces left : List Piece) (p : Point) (n : ℕ) → IsStanding bytes pieces left p n →
    is_open (place_of p) left ≡ true → IsOpenStanding bytes pieces p n
open-standing bytes pieces [] p n s h = absurd (both_ways false refl h)
open-standing bytes pieces (piece ∷ more) p n s h = open-standing-row bytes pieces piece more p n s h

pub closed-standing : (bytes : List ℕ) (pieces left : List Piece) (p : Point) (n : ℕ) →
    IsStanding bytes pieces left p n → is_open (place_of p) left ≡ false →
    (slice_get (content_of bytes pieces) n ≡ None) × (p ≡ content_end bytes pieces)
closed-standing bytes pieces left p n s h = grind (arith, closed-row, drop-none)

standing-point-by : (bytes : List ℕ) (pieces left : List Piece) (p : Point) (n : ℕ) → IsStanding bytes pieces left p n →
    (b : Bool) → is_open (place_of p) left ≡ b →
    p ≡ start_or (slice_get (content_of bytes pieces) n) (content_end bytes pieces)
standing-point-by bytes pieces left p n s true h =
    ap (λ c. start_or c (content_end bytes pieces)) (sym (open-standing bytes pieces left p n s h).code)
standing-point-by bytes pieces left p n s false h =
    let none : (slice_get (content_of bytes pieces) n ≡ None) × (p ≡ content_end bytes pieces) = closed-standing bytes pieces left p n s h in
    none.1 ∙ ap (λ c. start_or c (content_end bytes pieces)) (sym none.0)

-- the place in the document is that of the place in the content
pub standing-point : (bytes : List ℕ) (pieces left : List Piece) (p : Point) (n : ℕ) →
    IsStanding bytes pieces left p n → p ≡ start_or (slice_get (content_of bytes pieces) n) (content_end bytes pieces)
standing-point bytes pieces left p n s = standing-point-by bytes pieces left p n s (is_open (place_of p) left) refl

-- At first.

standing-start-row : (bytes : List ℕ) (piece : Piece) (more : List Piece) → IsContent bytes (piece ∷ more) →
    IsRowStart bytes piece more → IsStanding bytes (piece ∷ more) (piece ∷ more) (point_at bytes piece.start) 0
standing-start-row bytes piece more h r = record {
  content = h;
  is_point = r.point;
  in_order = h.in_order;
  ahead = r.codes;
  within = r.within;
  entered = r.entered;
  line = r.line;
  end = refl;
  count = omega arith;
}

pub standing-start : (bytes : List ℕ) (pieces : List Piece) → IsContent bytes pieces →
    IsStanding bytes pieces pieces (first_point bytes pieces) 0
standing-start bytes [] h = record {
  content = h;
  is_point = point_start bytes;
  in_order = refl;
  ahead = refl;
  within = refl;
  entered = tt;
  line = tt;
  end = refl;
  count = omega arith;
}
standing-start bytes (piece ∷ more) h = standing-start-row bytes piece more h (row-start bytes piece more h.in_order)

-- After a code.

standing-stay : (bytes : List ℕ) (pieces : List Piece) (piece : Piece) (more : List Piece) (p : Point) (n : ℕ) →
    IsStanding bytes pieces (piece ∷ more) p n → IsOpenRow bytes p piece more →
    IsEntered (place_of (stop_at bytes p)) (piece ∷ more) → EndsLine bytes (place_of (stop_at bytes p)) (piece ∷ more) →
    IsStanding bytes pieces (piece ∷ more) (stop_at bytes p) (n + 1)
standing-stay bytes pieces piece more p n s row entered line = record {
  content = s.content;
  is_point = row.toward.next.point;
  in_order = s.in_order;
  ahead = drop-past n (content_of bytes pieces) (code_here bytes p) (codes_in bytes (place_of (stop_at bytes p)) (piece ∷ more)) (s.ahead ∙ row.codes);
  within = row.within;
  entered = entered;
  line = line;
  end = s.end;
  count = omega (arith, s.count, row.toward.next.counts);
}

pub before-keys : (a b c d : ℕ) → is_before (c, d) (a, b) ≡ false → b ≤ 3 → 4 * a + b ≤ 4 * c + d
before-keys a b c d h k = grind (arith, nat_tests)

count-more : (n a b c : ℕ) → n ≤ a → a + 1 ≤ b → b ≤ c → n + 1 ≤ c
count-more n a b c h k l = omega arith

go-record : (bytes : List ℕ) (pieces : List Piece) (next : Piece) (more : List Piece) (n : ℕ) → IsContent bytes pieces →
    IsRowStart bytes next more → are_pieces bytes (next ∷ more) ≡ true →
    drop (n + 1) (content_of bytes pieces) ≡ content_of bytes (next ∷ more) →
    content_end bytes (next ∷ more) ≡ content_end bytes pieces →
    n + 1 ≤ 4 * (point_at bytes next.start).index + (point_at bytes next.start).vs →
    IsStanding bytes pieces (next ∷ more) (point_at bytes next.start) (n + 1)
go-record bytes pieces next more n content rs others ahead end count = record {
  content = content;
  is_point = rs.point;
  in_order = others;
  ahead = ahead ∙ rs.codes;
  within = rs.within;
  entered = rs.entered;
  line = rs.line;
  end = end;
  count = count;
}

standing-go : (bytes : List ℕ) (pieces : List Piece) (piece next : Piece) (more : List Piece) (p : Point) (n : ℕ) →
    IsStanding bytes pieces (piece ∷ next ∷ more) p n → IsOpenRow bytes p piece (next ∷ more) →
    is_open (place_of (stop_at bytes p)) (piece ∷ []) ≡ false →
    IsStanding bytes pieces (next ∷ more) (point_at bytes next.start) (n + 1)
standing-go bytes pieces piece next more p n s row h =
    let q : Point = stop_at bytes p in
    let q2 : Point = point_at bytes next.start in
    let others : are_pieces bytes (next ∷ more) ≡ true = (piece_row bytes piece (next ∷ more) s.in_order).others in
    let rs : IsRowStart bytes next more = row-start bytes next more others in
    let past : drop (n + 1) (content_of bytes pieces) ≡ codes_in bytes (place_of q) (piece ∷ next ∷ more) = drop-past n (content_of bytes pieces) (code_here bytes p) (codes_in bytes (place_of q) (piece ∷ next ∷ more)) (s.ahead ∙ row.codes) in
    let none : codes_in bytes (place_of q) (piece ∷ next ∷ more) ≡ content_of bytes (next ∷ more) = closed-codes bytes q piece (next ∷ more) row.toward.next.point h in
    let later : is_before (place_of q2) (place_of q) ≡ false = ap (λ (x : ℕ × ℕ). is_before x (place_of q)) rs.place ∙ not_past (place_of q) next.start (forward-row bytes q piece next more s.in_order h) in
    let keys : 4 * q.index + q.vs ≤ 4 * q2.index + q2.vs = before-keys q.index q.vs q2.index q2.vs later (vs-small bytes q (stands-point bytes q row.toward.next.point)) in
    go-record bytes pieces next more n s.content rs others (past ∙ none) s.end (count-more n (4 * p.index + p.vs) (4 * q.index + q.vs) (4 * q2.index + q2.vs) s.count row.toward.next.counts keys)

standing-next-row : (bytes : List ℕ) (pieces : List Piece) (piece : Piece) (more : List Piece) (p : Point) (n k : ℕ) →
    drop k pieces ≡ piece ∷ more → IsStanding bytes pieces (piece ∷ more) p n → IsOpenRow bytes p piece more →
    (b : Bool) → is_open (place_of (stop_at bytes p)) (piece ∷ []) ≡ b →
    IsStanding bytes pieces (drop (followed bytes k (stop_at bytes p) (piece ∷ more)).0 pieces) (followed bytes k (stop_at bytes p) (piece ∷ more)).1 (n + 1)
standing-next-row bytes pieces piece [] p n k left s row b e =
    subst (λ (x : List Piece). IsStanding bytes pieces x (stop_at bytes p) (n + 1)) (sym left) (standing-stay bytes pieces piece [] p n s row tt tt)
standing-next-row bytes pieces piece (next ∷ more) p n k left s row true e =
    rw e (subst (λ (x : List Piece). IsStanding bytes pieces x (stop_at bytes p) (n + 1)) (sym left) (standing-stay bytes pieces piece (next ∷ more) p n s row e (line-stay bytes p piece (next ∷ more) s.in_order row s.line e)))
standing-next-row bytes pieces piece (next ∷ more) p n k left s row false e =
    rw e (subst (λ (x : List Piece). IsStanding bytes pieces x (point_at bytes next.start) (n + 1)) (sym (drop-past k pieces piece (next ∷ more) left)) (standing-go bytes pieces piece next more p n s row e))

standing-next-left : (bytes : List ℕ) (pieces left : List Piece) (p : Point) (n k : ℕ) → drop k pieces ≡ left →
    IsStanding bytes pieces left p n → is_open (place_of p) left ≡ true →
    IsStanding bytes pieces (drop (followed bytes k (stop_at bytes p) left).0 pieces) (followed bytes k (stop_at bytes p) left).1 (n + 1)
standing-next-left bytes pieces [] p n k e s h = absurd (both_ways false refl h)
standing-next-left bytes pieces (piece ∷ more) p n k e s h =
    standing-next-row bytes pieces piece more p n k e s (open-row bytes p piece more s.is_point s.in_order s.within h) (is_open (place_of (stop_at bytes p)) (piece ∷ [])) refl

-- after a code
pub standing-next : (bytes : List ℕ) (pieces : List Piece) (p : Point) (n k : ℕ) →
    IsStanding bytes pieces (drop k pieces) p n → is_open (place_of p) (drop k pieces) ≡ true →
    IsStanding bytes pieces (drop (followed bytes k (stop_at bytes p) (drop k pieces)).0 pieces) (followed bytes k (stop_at bytes p) (drop k pieces)).1 (n + 1)
standing-next bytes pieces p n k s h = standing-next-left bytes pieces (drop k pieces) p n k refl s h

-- Where an event stands that ends after a code: where the next one begins, but for a line ending.

stop-within-row : (bytes : List ℕ) (pieces : List Piece) (piece : Piece) (more : List Piece) (p : Point) (n k : ℕ) →
    IsStanding bytes pieces (piece ∷ more) p n → IsOpenRow bytes p piece more →
    (is_line_ending (code_here bytes p) ≡ true → ⊥) → (b : Bool) →
    is_open (place_of (stop_at bytes p)) (piece ∷ []) ≡ b →
    stop_at bytes p ≡ (followed bytes k (stop_at bytes p) (piece ∷ more)).1
stop-within-row bytes pieces piece [] p n k s row other b e = refl
stop-within-row bytes pieces piece (next ∷ more) p n k s row other true e = rw e refl
stop-within-row bytes pieces piece (next ∷ more) p n k s row other false e =
    absurd (other (line-last bytes p piece next more row s.line e))

pub stop-within : (bytes : List ℕ) (pieces left : List Piece) (p : Point) (n k : ℕ) → IsStanding bytes pieces left p n →
    is_open (place_of p) left ≡ true → (is_line_ending (code_here bytes p) ≡ true → ⊥) →
    stop_at bytes p ≡ (followed bytes k (stop_at bytes p) left).1
stop-within bytes pieces [] p n k s h other = absurd (both_ways false refl h)
stop-within bytes pieces (piece ∷ more) p n k s h other =
    stop-within-row bytes pieces piece more p n k s (open-row bytes p piece more s.is_point s.in_order s.within h) other (is_open (place_of (stop_at bytes p)) (piece ∷ [])) refl
