-- What a cursor answers, and what it keeps.
use Rattle.std.proofs.Common.{ℕ, suc, ◌+◌, ◌*◌, ◌<◌, ◌≤◌, ◌^◌, Bool, true, false, ◌≡◌, arith, List, [], ◌∷◌, length, drop, slice_get, refl, sym, ap, subst, ◌∙◌, Option, Some, None, IsSome, add-one, inl, inr, ◌&&◌, ◌==◌, nat_lt, get_or, if◌then◌else◌}
use Rattle.std.proofs.lemmas.Option.{same_Some}
use Rattle.std.proofs.lemmas.List.{drop_all}
use Rattle.std.proofs.lemmas.Bool.{both_ways, cases_lt, eqb-true}
use Rattle.markdown_event.specs.declared.event.Point.{Point}
use Rattle.markdown_content.specs.declared.parser.Piece.{Piece}
use Rattle.markdown_content.specs.Codes.{Code, line_feed, space_value, tab_value, is_line_ending_byte, place_of}
use Rattle.markdown_content.specs.Content.{IsContent, content_of, content_end}
use Rattle.markdown_content.specs.Place.{Place, start_of_content, moved, value_of, start_or, stop_or, code_at, code_before, point_of, exit_point}
use Rattle.markdown_content.specs.DocumentWalk.{IsPoint, next_point, value_from}
use Rattle.markdown_content.specs.KnownPlaces.{first_place}
use Rattle.markdown_content.specs.PlaceInDocument.{is_open, BeginsAt, IsStanding, IsCursor, content_place, first_point, followed}
use Rattle.markdown_content.proofs.DocumentCodes.{stop_at, value_at, code_here}
use Rattle.markdown_content.proofs.DocumentWalkLemmas.{stop-ending}
use Rattle.markdown_content.proofs.DocumentPlaces.{next, IsNextPlace}
use Rattle.markdown_content.proofs.NextPlace.{value-is, point_fits, Fits_point}
use Rattle.markdown_content.proofs.ContentCodes.{row-start}
use Rattle.markdown_content.proofs.CursorInvariant.{standing-point, standing-start, standing-next, stop-within, open-standing, closed-standing, IsOpenStanding}

pub cursor_point : {bytes : List ℕ} {pieces : List Piece} {k : ℕ} {p e : Point} {before : Option ℕ} {n : ℕ} →
    IsCursor bytes pieces k p e before n → p ≡ point_of (content_place bytes pieces n)
unfolding point_of start_of_content
cursor_point {bytes} {pieces} {k} {p} {e} {before} {n} h = standing-point bytes pieces (drop k pieces) p n h.standing

-- where a code is left

pub record IsAtCode (bytes : List ℕ) (pieces : List Piece) (k : ℕ) (p : Point) (n : ℕ) : Type 0 where
  pub in_bytes : p.index < length bytes
  pub in_pieces : k < length pieces
  pub code : slice_get (content_of bytes pieces) n ≡ Some (code_here bytes p)
  pub value : value_from bytes p ≡ code_at (content_place bytes pieces n)
  pub stop : IsPoint bytes (next_point bytes p)
  pub next : next_point bytes p ≡ stop_at bytes p
  pub count : n + 1 < 2 ^ 64

in-pieces : (pieces : List Piece) (k : ℕ) (at : ℕ × ℕ) → is_open at (drop k pieces) ≡ true → k < length pieces
in-pieces pieces k at h = grind (arith, cases_lt, both_ways, drop_all)

code-at-is : (bytes : List ℕ) (pieces : List Piece) (n : ℕ) (c : Code) →
    slice_get (content_of bytes pieces) n ≡ Some c → code_at (content_place bytes pieces n) ≡ Some c.value
unfolding code_at start_of_content
code-at-is bytes pieces n c h = ap value_of h

count-fits : (bytes : List ℕ) (p : Point) (n : ℕ) → Fits_point p → n ≤ 4 * p.index + p.vs → n + 1 < 2 ^ 64
count-fits bytes p n f h = omega (arith, f.index, f.vs)

pub at_code : {bytes : List ℕ} {pieces : List Piece} {k : ℕ} {p e : Point} {before : Option ℕ} {n : ℕ} →
    IsCursor bytes pieces k p e before n → is_open (place_of p) (drop k pieces) ≡ true → IsAtCode bytes pieces k p n
at_code {bytes} {pieces} {k} {p} {e} {before} {n} h here =
    let s : IsStanding bytes pieces (drop k pieces) p n = h.standing in
    let o : IsOpenStanding bytes pieces p n = open-standing bytes pieces (drop k pieces) p n s here in
    let one : IsNextPlace bytes p = next bytes p s.is_point o.in_bytes in
    record {
      in_bytes = o.in_bytes;
      in_pieces = in-pieces pieces k (place_of p) here;
      code = o.code;
      value = value-is bytes p s.is_point o.in_bytes ∙ sym (code-at-is bytes pieces n (code_here bytes p) o.code);
      stop = subst (λ (x : Point). IsPoint bytes x) (sym one.next) o.point;
      next = one.next;
      count = count-fits bytes p n (point_fits bytes p s.is_point s.content.fits) s.count;
    }

pub cursor_end : {bytes : List ℕ} {pieces : List Piece} {k : ℕ} {p e : Point} {before : Option ℕ} {n : ℕ} →
    IsCursor bytes pieces k p e before n → is_open (place_of p) (drop k pieces) ≡ false →
    None ≡ code_at (content_place bytes pieces n)
unfolding code_at start_of_content
cursor_end {bytes} {pieces} {k} {p} {e} {before} {n} h shut =
    sym (ap value_of (closed-standing bytes pieces (drop k pieces) p n h.standing shut).0)

some-none : IsSome {T = ℕ} None → ⊥
some-none h = both_ways false refl h

at-some-by : {bytes : List ℕ} {pieces : List Piece} {k : ℕ} {p e : Point} {before : Option ℕ} {n : ℕ} →
    IsCursor bytes pieces k p e before n → IsSome (code_at (content_place bytes pieces n)) → (b : Bool) →
    is_open (place_of p) (drop k pieces) ≡ b → is_open (place_of p) (drop k pieces) ≡ true
at-some-by h some true e = e
at-some-by h some false e = absurd (some-none (subst (λ (x : Option ℕ). IsSome x) (sym (cursor_end h e)) some))

pub at_some : {bytes : List ℕ} {pieces : List Piece} {k : ℕ} {p e : Point} {before : Option ℕ} {n : ℕ} (x : Place) →
    IsCursor bytes pieces k p e before n → content_place bytes pieces n ≡ x → IsSome (code_at x) →
    IsAtCode bytes pieces k p n
at_some {bytes} {pieces} {k} {p} {e} {before} {n} x h is some =
    let here : IsSome (code_at (content_place bytes pieces n)) = subst (λ (y : Place). IsSome (code_at y)) (sym is) some in
    at_code h (at-some-by h here (is_open (place_of p) (drop k pieces)) refl)

-- past a code

pub moved_is : (bytes : List ℕ) (pieces : List Piece) (n : ℕ) →
    moved (content_place bytes pieces n) ≡ content_place bytes pieces (n + 1)
unfolding moved
moved_is bytes pieces n = refl

before-more : (bytes : List ℕ) (pieces : List Piece) (n : ℕ) →
    code_before (content_place bytes pieces (n + 1)) ≡ code_at (content_place bytes pieces n)
unfolding code_before code_at
before-more bytes pieces n = rw add-one refl

exit-more : (bytes : List ℕ) (pieces : List Piece) (n : ℕ) (c : Code) → slice_get (content_of bytes pieces) n ≡ Some c →
    exit_point (content_place bytes pieces (n + 1)) ≡ c.stop
unfolding exit_point start_of_content
exit-more bytes pieces n c h =
    rw add-one (ap (λ (x : Option Code). stop_or x (start_or (slice_get (content_of bytes pieces) (suc n)) (content_end bytes pieces))) h)

none≢some : (v : ℕ) → None ≡ Some v → ⊥
none≢some v e = cc

other-value : (b : ℕ) (t : Bool) → is_line_ending_byte b ≡ false → (if t then space_value else b) ≡ line_feed → ⊥
other-value b true h e = omega arith
other-value b false h e = both_ways (is_line_ending_byte b) h (rw e refl)

-- after a line ending stands the start of a line
value-other : (bytes : List ℕ) (p : Point) → is_line_ending_byte (get_or bytes p.index 0) ≡ false →
    (if get_or bytes p.index 0 == tab_value && nat_lt 0 p.vs then space_value else get_or bytes p.index 0) ≡ value_at bytes p
value-other bytes p h = rw h refl

line-stop-by : (bytes : List ℕ) (p : Point) → value_at bytes p ≡ line_feed → (b : Bool) →
    is_line_ending_byte (get_or bytes p.index 0) ≡ b → ((stop_at bytes p).column ≡ 1) × ((stop_at bytes p).vs ≡ 0)
line-stop-by bytes p v true h = subst (λ (q : Point). (q.column ≡ 1) × (q.vs ≡ 0)) (stop-ending bytes p h) (refl, refl)
line-stop-by bytes p v false h =
    absurd (other-value (get_or bytes p.index 0) (get_or bytes p.index 0 == tab_value && nat_lt 0 p.vs) h (value-other bytes p h ∙ v))

line-stop : (bytes : List ℕ) (p : Point) → value_at bytes p ≡ line_feed →
    ((stop_at bytes p).column ≡ 1) × ((stop_at bytes p).vs ≡ 0)
line-stop bytes p v = line-stop-by bytes p v (is_line_ending_byte (get_or bytes p.index 0)) refl

-- a cursor past the code where it stood
pub cursor_next : {bytes : List ℕ} {pieces : List Piece} {k : ℕ} {p e : Point} {before : Option ℕ} {n : ℕ} (x : Place) (k2 v : ℕ) (p2 e2 : Point) →
    IsCursor bytes pieces k p e before n → content_place bytes pieces n ≡ x → IsSome (code_at x) →
    value_from bytes p ≡ Some v → e2 ≡ next_point bytes p →
    ◌≡◌ {A = ℕ × Point} (k2, p2) (followed bytes k e2 (drop k pieces)) → IsCursor bytes pieces k2 p2 e2 (Some v) (n + 1)
cursor_next {bytes} {pieces} {k} {p} {e} {before} {n} x k2 v p2 e2 h is some value stop go =
    let here : IsSome (code_at (content_place bytes pieces n)) = subst (λ (y : Place). IsSome (code_at y)) (sym is) some in
    let shown : is_open (place_of p) (drop k pieces) ≡ true = at-some-by h here (is_open (place_of p) (drop k pieces)) refl in
    let at : IsAtCode bytes pieces k p n = at_code h shown in
    let same : e2 ≡ stop_at bytes p = stop ∙ at.next in
    let read : v ≡ value_at bytes p = same_Some v (value_at bytes p) (sym value ∙ value-is bytes p h.standing.is_point at.in_bytes) in
    let went : ◌≡◌ {A = ℕ × Point} (followed bytes k (stop_at bytes p) (drop k pieces)) (k2, p2) = sym (go ∙ ap (λ (q : Point). followed bytes k q (drop k pieces)) same) in
    record {
      standing = subst (λ (x : ℕ × Point). IsStanding bytes pieces (drop x.0 pieces) x.1 (n + 1)) went (standing-next bytes pieces p n k h.standing shown);
      before = sym value ∙ at.value ∙ sym (before-more bytes pieces n);
      exits = same ∙ sym (exit-more bytes pieces n (code_here bytes p) at.code);
      after_line =
          λ f. subst (λ (q : Point). (q.column ≡ 1) × (q.vs ≡ 0)) (sym same) (line-stop bytes p (sym read ∙ same_Some v line_feed f));
      within_line =
          λ other. same ∙ stop-within bytes pieces (drop k pieces) p n k h.standing shown (λ f. other (ap (λ (x : ℕ). Some x) (read ∙ eqb-true (value_at bytes p) line_feed f))) ∙ ap (λ (x : ℕ × Point). x.1) went;
    }

-- a cursor at the start
pub cursor_start : (bytes : List ℕ) (pieces : List Piece) (p : Point) → IsContent bytes pieces →
    p ≡ first_point bytes pieces → IsCursor bytes pieces 0 p p None 0
unfolding code_before exit_point start_of_content
cursor_start bytes pieces p h is = grind (arith, standing-start, standing-point, none≢some)

pub start_is : (bytes : List ℕ) (pieces : List Piece) → content_place bytes pieces 0 ≡ start_of_content bytes pieces
unfolding start_of_content
start_is bytes pieces = refl

-- Where a cursor starts again.

abbrev pub with_place : ℕ → ℕ → ℕ × ℕ → Point
with_place line column at = record { line = line; column = column; index = at.0; vs = at.1 }

first-placed : (bytes : List ℕ) (pieces : List Piece) → IsContent bytes pieces → first_place (0, 0) pieces ≡ place_of (first_point bytes pieces)
first-placed bytes [] h = refl
first-placed bytes (piece ∷ more) h = sym (row-start bytes piece more h.in_order).place

-- the first code's point is known by its line, its column and its place
pub first_known : (bytes : List ℕ) (pieces : List Piece) (line column : ℕ) (at : ℕ × ℕ) → IsContent bytes pieces →
    BeginsAt bytes pieces line column → at ≡ first_place (0, 0) pieces →
    with_place line column at ≡ first_point bytes pieces
first_known bytes pieces line column at h begins e = grind (arith, first-placed)
