-- The codes of a content from a place on.
use Rattle.std.proofs.Common.{ℕ, Bool, true, false, not, ◌&&◌, ◌==◌, ◌≡◌, arith, List, [], ◌∷◌, ◌++◌, filter, refl, sym, ap, ◌∙◌, IsTrue}
use Rattle.std.proofs.lemmas.Bool.{both_ways, and_parts, eqb-true, not-false}
use Rattle.std.proofs.lemmas.Bool.Decides.{nat_tests}
use Rattle.markdown_event.specs.declared.event.Point.{Point}
use Rattle.markdown_content.specs.declared.parser.Piece.{Piece}
use Rattle.markdown_content.specs.Codes.{Code, codes_of, place_of, point_at, is_at_or_after, is_code_before, is_line_ending}
use Rattle.markdown_content.specs.Content.{content_of, content_end, piece_codes, is_place, are_pieces, ends_line}
use Rattle.markdown_content.specs.DocumentWalk.{codes_after, IsPoint}
use Rattle.markdown_content.specs.PlaceInDocument.{is_open, codes_in, IsInFirstPiece, IsEntered, EndsLine}
use Rattle.markdown_content.proofs.PlaceOrder.{is_before, before-self}
use Rattle.markdown_content.proofs.AdjacentCodes.{before_in-none}
use Rattle.markdown_content.proofs.DocumentCodes.{codes_at, stop_at, code_here}
use Rattle.markdown_content.proofs.DocumentWalkLemmas.{chain-at}
use Rattle.markdown_content.proofs.DocumentPlaces.{stands-point, codes-point, there, IsThere, toward, IsToward, same-pair}
use Rattle.markdown_content.proofs.WalkSteps.{not_past, not_past-back}

-- What the pieces of a content are.

pub record IsPieceRow (bytes : List ℕ) (piece : Piece) (rest : List Piece) : Type 0 where
  pub start : is_place bytes piece.start ≡ true
  pub end : is_place bytes piece.end ≡ true
  pub in_order : is_before piece.end piece.start ≡ false
  pub others : are_pieces bytes rest ≡ true

pub piece_row : (bytes : List ℕ) (piece : Piece) (rest : List Piece) → are_pieces bytes (piece ∷ rest) ≡ true →
    IsPieceRow bytes piece rest
piece_row bytes piece rest h = grind (arith, and_parts, not_past)

pub record IsFollowed (bytes : List ℕ) (piece next : Piece) : Type 0 where
  pub ends : ends_line (piece_codes (codes_of bytes) piece) ≡ true
  pub after : is_before next.start piece.end ≡ false

pub followed_by : (bytes : List ℕ) (piece next : Piece) (rest : List Piece) →
    are_pieces bytes (piece ∷ next ∷ rest) ≡ true → IsFollowed bytes piece next
followed_by bytes piece next rest h = grind (arith, and_parts, not_past)

-- A piece's codes.

filter-and-step : (f g : Code → Bool) (c : Code) (cs : List Code) (b : Bool) → f c ≡ b →
    filter (λ d. f d && g d) cs ≡ filter g (filter f cs) →
    filter (λ d. f d && g d) (c ∷ cs) ≡ filter g (filter f (c ∷ cs))
filter-and-step f g c cs true h e = rw (h, e) refl
filter-and-step f g c cs false h e = rw h e

filter-and : (f g : Code → Bool) (cs : List Code) → filter (λ c. f c && g c) cs ≡ filter g (filter f cs)
filter-and f g [] = refl
filter-and f g (c ∷ cs) = filter-and-step f g c cs (f c) refl (filter-and f g cs)

pub piece-codes-is : (bytes : List ℕ) (piece : Piece) →
    piece_codes (codes_of bytes) piece ≡ filter (is_code_before piece.end) (codes_after bytes piece.start)
piece-codes-is bytes piece =
    filter-and (λ c. not (is_code_before piece.start c)) (is_code_before piece.end) (codes_of bytes)

-- from a place on, no code is before it
pub none-before : (bytes : List ℕ) (p : Point) (at : ℕ × ℕ) → IsPoint bytes p → is_before (place_of p) at ≡ false →
    filter (is_code_before at) (codes_after bytes (place_of p)) ≡ []
none-before bytes p at h k =
    let here : codes_at bytes p ≡ codes_after bytes (place_of p) = codes-point bytes p h in
    before_in-none p (codes_after bytes (place_of p)) at (chain-at bytes p (codes_after bytes (place_of p)) (stands-point bytes p h) here) k

-- Where a piece starts.

pub record IsRowStart (bytes : List ℕ) (piece : Piece) (more : List Piece) : Type 0 where
  pub place : place_of (point_at bytes piece.start) ≡ piece.start
  pub point : IsPoint bytes (point_at bytes piece.start)
  pub codes : content_of bytes (piece ∷ more) ≡ codes_in bytes (place_of (point_at bytes piece.start)) (piece ∷ more)
  pub within : IsInFirstPiece (point_at bytes piece.start) (piece ∷ more)
  pub entered : IsEntered (place_of (point_at bytes piece.start)) (piece ∷ more)
  pub line : EndsLine bytes (place_of (point_at bytes piece.start)) (piece ∷ more)

is_open-same : (at end : ℕ × ℕ) → not (at.0 == end.0 && at.1 == end.1) ≡ false → ◌≡◌ {A = ℕ × ℕ} at end
is_open-same at end h = grind (arith, and_parts, not-false, same-pair, eqb-true)

-- a piece that another follows has codes, so it does not end where it starts
open-start : (bytes : List ℕ) (piece : Piece) → IsThere bytes piece.start →
    ends_line (piece_codes (codes_of bytes) piece) ≡ true → (b : Bool) → is_open piece.start (piece ∷ []) ≡ b →
    is_open piece.start (piece ∷ []) ≡ true
open-start bytes piece t h true k = k
open-start bytes piece t h false k =
    let same : ◌≡◌ {A = ℕ × ℕ} piece.start piece.end = is_open-same piece.start piece.end k in
    let p : Point = point_at bytes piece.start in
    let here : is_before (place_of p) piece.end ≡ false = ap (λ (x : ℕ × ℕ). is_before x piece.end) (t.place ∙ same) ∙ before-self piece.end in
    let none : filter (is_code_before piece.end) (codes_after bytes piece.start) ≡ [] = ap (λ (x : ℕ × ℕ). filter (is_code_before piece.end) (codes_after bytes x)) (sym t.place) ∙ none-before bytes p piece.end t.point here in
    let empty : piece_codes (codes_of bytes) piece ≡ [] = piece-codes-is bytes piece ∙ none in
    absurd (both_ways (ends_line (piece_codes (codes_of bytes) piece)) (ap ends_line empty) h)

entered-start : (bytes : List ℕ) (piece : Piece) (rest : List Piece) → IsThere bytes piece.start →
    are_pieces bytes (piece ∷ rest) ≡ true → IsEntered piece.start (piece ∷ rest)
entered-start bytes piece [] t h = tt
entered-start bytes piece (next ∷ more) t h =
    open-start bytes piece t (followed_by bytes piece next more h).ends (is_open piece.start (piece ∷ [])) refl

line-start : (bytes : List ℕ) (piece : Piece) (rest : List Piece) → are_pieces bytes (piece ∷ rest) ≡ true →
    EndsLine bytes piece.start (piece ∷ rest)
line-start bytes piece [] h = tt
line-start bytes piece (next ∷ more) h =
    ap ends_line (sym (piece-codes-is bytes piece)) ∙ (followed_by bytes piece next more h).ends

pub row-start : (bytes : List ℕ) (piece : Piece) (more : List Piece) → are_pieces bytes (piece ∷ more) ≡ true →
    IsRowStart bytes piece more
row-start bytes piece more h = grind (arith, piece_row, there, piece-codes-is, not_past-back, entered-start, line-start)

-- Where a code stands.

pub record IsOpenRow (bytes : List ℕ) (p : Point) (piece : Piece) (more : List Piece) : Type 0 where
  pub toward : IsToward bytes p piece.end
  pub codes : codes_in bytes (place_of p) (piece ∷ more) ≡ code_here bytes p ∷ codes_in bytes (place_of (stop_at bytes p)) (piece ∷ more)
  pub within : IsInFirstPiece (stop_at bytes p) (piece ∷ more)
  pub here : filter (is_code_before piece.end) (codes_after bytes (place_of p)) ≡ code_here bytes p ∷ filter (is_code_before piece.end) (codes_after bytes (place_of (stop_at bytes p)))

open-before : (a b c d : ℕ) → is_before (c, d) (a, b) ≡ false → not (a == c && b == d) ≡ true →
    is_before (a, b) (c, d) ≡ true
open-before a b c d h k = grind (arith, nat_tests)

pub passes : (f : Code → Bool) (c : Code) (cs ds : List Code) → f c ≡ true → ds ≡ c ∷ cs → filter f ds ≡ c ∷ filter f cs
passes f c cs ds h e = rw (e, h) refl

pub first-passes : (f : Code → Bool) (c : Code) (cs ds more : List Code) → f c ≡ true → ds ≡ c ∷ cs →
    filter f ds ++ more ≡ c ∷ (filter f cs ++ more)
first-passes f c cs ds more h e = rw (e, h) refl

pub open-row : (bytes : List ℕ) (p : Point) (piece : Piece) (more : List Piece) → IsPoint bytes p →
    are_pieces bytes (piece ∷ more) ≡ true → IsInFirstPiece p (piece ∷ more) → is_open (place_of p) (piece ∷ more) ≡ true →
    IsOpenRow bytes p piece more
open-row bytes p piece more h all within here =
    let before : is_before (place_of p) piece.end ≡ true = open-before p.index p.vs piece.end.0 piece.end.1 (not_past (place_of p) piece.end within) here in
    let t : IsToward bytes p piece.end = toward bytes p piece.end h (there bytes piece.end (piece_row bytes piece more all).end) before in
    record {
      toward = t;
      codes = first-passes (is_code_before piece.end) (code_here bytes p) (codes_after bytes (place_of (stop_at bytes p))) (codes_after bytes (place_of p)) (content_of bytes more) before t.next.codes;
      within = not_past-back (place_of (stop_at bytes p)) piece.end t.reached;
      here = passes (is_code_before piece.end) (code_here bytes p) (codes_after bytes (place_of (stop_at bytes p))) (codes_after bytes (place_of p)) before t.next.codes;
    }

-- a code that is not the last of a piece leaves the end of its line to come
ends-later : (c d : Code) (cs ds : List Code) → cs ≡ d ∷ ds → ends_line (c ∷ cs) ≡ true → ends_line cs ≡ true
ends-later c d cs ds e h = ap ends_line e ∙ ap (λ (x : List Code). ends_line (c ∷ x)) (sym e) ∙ h

pub line-stay : (bytes : List ℕ) (p : Point) (piece : Piece) (more : List Piece) →
    are_pieces bytes (piece ∷ more) ≡ true → IsOpenRow bytes p piece more → EndsLine bytes (place_of p) (piece ∷ more) →
    is_open (place_of (stop_at bytes p)) (piece ∷ []) ≡ true →
    EndsLine bytes (place_of (stop_at bytes p)) (piece ∷ more)
line-stay bytes p piece [] all row line h = tt
line-stay bytes p piece (next ∷ more) all row line h =
    let q : Point = stop_at bytes p in
    let after : IsOpenRow bytes q piece (next ∷ more) = open-row bytes q piece (next ∷ more) row.toward.next.point all row.within h in
    ends-later (code_here bytes p) (code_here bytes q) (filter (is_code_before piece.end) (codes_after bytes (place_of q))) (filter (is_code_before piece.end) (codes_after bytes (place_of (stop_at bytes q)))) after.here (ap ends_line (sym row.here) ∙ line)

-- the last code of a piece that another follows is a line ending
pub line-last : (bytes : List ℕ) (p : Point) (piece next : Piece) (more : List Piece) →
    IsOpenRow bytes p piece (next ∷ more) → EndsLine bytes (place_of p) (piece ∷ next ∷ more) →
    is_open (place_of (stop_at bytes p)) (piece ∷ []) ≡ false → is_line_ending (code_here bytes p) ≡ true
line-last bytes p piece next more row line h =
    let q : Point = stop_at bytes p in
    let same : ◌≡◌ {A = ℕ × ℕ} (place_of q) piece.end = is_open-same (place_of q) piece.end h in
    let here : is_before (place_of q) piece.end ≡ false = ap (λ (x : ℕ × ℕ). is_before x piece.end) same ∙ before-self piece.end in
    let none : filter (is_code_before piece.end) (codes_after bytes (place_of q)) ≡ [] = none-before bytes q piece.end row.toward.next.point here in
    ap (λ (x : List Code). ends_line (code_here bytes p ∷ x)) (sym none) ∙ ap ends_line (sym row.here) ∙ line

-- Where no code is left.

pub closed-codes : (bytes : List ℕ) (p : Point) (piece : Piece) (more : List Piece) → IsPoint bytes p →
    is_open (place_of p) (piece ∷ more) ≡ false → codes_in bytes (place_of p) (piece ∷ more) ≡ content_of bytes more
closed-codes bytes p piece more h k = grind (arith, is_open-same, before-self, none-before)

pub closed-row : (bytes : List ℕ) (p : Point) (row : List Piece) → IsPoint bytes p → IsInFirstPiece p row →
    IsEntered (place_of p) row → is_open (place_of p) row ≡ false →
    (codes_in bytes (place_of p) row ≡ []) × (p ≡ content_end bytes row)
closed-row bytes p [] h within entered k = (refl, within)
closed-row bytes p (piece ∷ []) h within entered k =
    (closed-codes bytes p piece [] h k, sym h.here ∙ ap (λ (x : ℕ × ℕ). point_at bytes x) (is_open-same (place_of p) piece.end k))
closed-row bytes p (piece ∷ next ∷ more) h within entered k =
    absurd (both_ways (is_open (place_of p) (piece ∷ [])) k entered)

-- the next piece, where a place is at the end of the one before it
pub forward-row : (bytes : List ℕ) (p : Point) (piece next : Piece) (more : List Piece) →
    are_pieces bytes (piece ∷ next ∷ more) ≡ true → is_open (place_of p) (piece ∷ []) ≡ false →
    IsTrue (is_at_or_after (place_of p) next.start)
forward-row bytes p piece next more all k =
    let same : ◌≡◌ {A = ℕ × ℕ} (place_of p) piece.end = is_open-same (place_of p) piece.end k in
    ap (λ (x : ℕ × ℕ). is_at_or_after x next.start) same ∙ not_past-back piece.end next.start (followed_by bytes piece next more all).after
