-- A cursor past ordinary bytes of a piece.
use Rattle.std.proofs.Common.{ℕ, ◌+◌, ◌<◌, ◌≤◌, true, false, not, ◌&&◌, ◌==◌, ◌≡◌, arith, List, length, drop, get_or, refl, sym, ap, subst, ◌∙◌, Option, Some, None, IsSome, [], ◌∷◌, inl}
use Rattle.std.proofs.lemmas.List.{drop_more}
use Rattle.std.proofs.lemmas.Bool.{and_from, eq-eqb}
use Rattle.std.proofs.lemmas.Bool.Decides.{nat_tests}
use Rattle.markdown_event.specs.declared.event.Point.{Point}
use Rattle.markdown_content.specs.declared.parser.Piece.{Piece}
use Rattle.markdown_content.specs.Codes.{is_line_ending_byte, line_ending_len, line_start, tab_value, next_column, place_of}
use Rattle.markdown_content.specs.Place.{code_at}
use Rattle.markdown_content.specs.PlaceInDocument.{is_open, IsCursor, content_place}
use Rattle.markdown_content.specs.DocumentWalk.{next_point, value_from}
use Rattle.markdown_content.proofs.NextPlace.{next_byte, next_ending, value_byte, value_ending, other_byte, ending_byte}
use Rattle.markdown_content.proofs.LaterPieces.{followed-open, followed-last}
use Rattle.markdown_content.proofs.CursorSteps.{at_code, IsAtCode, cursor_next, cursor_end}

open-index : (a b c d : ℕ) → a < c → not (a == c && b == d) ≡ true
open-index a b c d h = grind (arith, nat_tests)

-- a place before the end of its piece, by the index
pub open-before-end : (pieces : List Piece) (k : ℕ) (p : Point) (d : Piece) → k < length pieces →
    p.index < (get_or pieces k d).end.0 → is_open (place_of p) (drop k pieces) ≡ true
open-before-end pieces k p d lt h =
    ap (λ (x : List Piece). is_open (place_of p) x) (drop_more pieces k d lt) ∙ open-index p.index p.vs (get_or pieces k d).end.0 (get_or pieces k d).end.1 h

not-control : (b c : ℕ) → 13 < b → c ≤ 13 → b ≡ c → ⊥
not-control b c h k e = omega arith

some-here : (o : Option ℕ) (v : ℕ) → o ≡ Some v → IsSome o
some-here o v e = subst (λ (x : Option ℕ). IsSome x) (sym e) refl

-- past a code, where the place after it is before the end of the piece
next-within : {bytes : List ℕ} {pieces : List Piece} {k : ℕ} {p e : Point} {before : Option ℕ} {n : ℕ} →
    IsCursor bytes pieces k p e before n → (d : Piece) → k < length pieces → p.index < (get_or pieces k d).end.0 →
    (v : ℕ) (q : Point) → value_from bytes p ≡ Some v → q ≡ next_point bytes p → q.index < (get_or pieces k d).end.0 →
    IsCursor bytes pieces k q q (Some v) (n + 1)
next-within {bytes} {pieces} {k} {p} {e} {before} {n} h d lt here v q value stop fits =
    let at : IsAtCode bytes pieces k p n = at_code h (open-before-end pieces k p d lt here) in
    let code : code_at (content_place bytes pieces n) ≡ Some v = sym at.value ∙ value in
    cursor_next (content_place bytes pieces n) k v q q h refl (some-here (code_at (content_place bytes pieces n)) v code) value stop (followed-open bytes pieces k q (open-before-end pieces k q d lt fits))

-- an ordinary byte of a piece, and the place after it
pub record IsByte (bytes : List ℕ) (pieces : List Piece) (p : Point) (n : ℕ) : Type 0 where
  pub value : value_from bytes p ≡ Some (get_or bytes p.index 0)
  pub stop : next_column p (p.index + 1) 0 ≡ next_point bytes p
  pub code : code_at (content_place bytes pieces n) ≡ Some (get_or bytes p.index 0)

plain_byte : {bytes : List ℕ} {pieces : List Piece} {k : ℕ} {p e : Point} {before : Option ℕ} {n : ℕ} →
    IsCursor bytes pieces k p e before n → (d : Piece) → k < length pieces → p.index < (get_or pieces k d).end.0 →
    13 < get_or bytes p.index 0 → IsByte bytes pieces p n
plain_byte {bytes} {pieces} {k} {p} {e} {before} {n} h d lt fits plain =
    let b : ℕ = get_or bytes p.index 0 in
    let at : IsAtCode bytes pieces k p n = at_code h (open-before-end pieces k p d lt fits) in
    let byte : is_line_ending_byte b ≡ false = other_byte b (not-control b 10 plain (omega arith)) (not-control b 13 plain (omega arith)) in
    let tab : b ≡ tab_value → ⊥ = not-control b tab_value plain (omega arith) in
    let value : value_from bytes p ≡ Some b = value_byte bytes p h.standing.is_point at.in_bytes byte (λ x. absurd (tab x)) in
    record {
      value = value;
      stop = next_byte bytes p h.standing.is_point at.in_bytes byte (λ x. absurd (tab x));
      code = sym at.value ∙ value;
    }

-- past an ordinary byte that is not the last of its piece
pub plain_next : {bytes : List ℕ} {pieces : List Piece} {k : ℕ} {p e : Point} {before : Option ℕ} {n : ℕ} →
    IsCursor bytes pieces k p e before n → (d : Piece) → k < length pieces → p.index + 1 < (get_or pieces k d).end.0 →
    13 < get_or bytes p.index 0 →
    IsCursor bytes pieces k (next_column p (p.index + 1) 0) (next_column p (p.index + 1) 0) (Some (get_or bytes p.index 0)) (n + 1)
plain_next {bytes} {pieces} {k} {p} {e} {before} {n} h d lt fits plain =
    let here : p.index < (get_or pieces k d).end.0 = omega (arith, fits) in
    let byte : IsByte bytes pieces p n = plain_byte h d lt here plain in
    next-within h d lt here (get_or bytes p.index 0) (next_column p (p.index + 1) 0) byte.value byte.stop fits

feed-len : (b : ℕ) (bs : List ℕ) → b ≡ 10 → line_ending_len b bs ≡ 1
feed-len b [] e = refl
feed-len b (c ∷ cs) e = rw e refl

-- past a line feed that is not the last byte of its piece
pub feed_next : {bytes : List ℕ} {pieces : List Piece} {k : ℕ} {p e : Point} {before : Option ℕ} {n : ℕ} →
    IsCursor bytes pieces k p e before n → (d : Piece) → k < length pieces → p.index + 1 < (get_or pieces k d).end.0 →
    get_or bytes p.index 0 ≡ 10 →
    IsCursor bytes pieces k (line_start (p.line + 1) (p.index + 1)) (line_start (p.line + 1) (p.index + 1)) (Some 10) (n + 1)
feed_next {bytes} {pieces} {k} {p} {e} {before} {n} h d lt fits feed =
    let b : ℕ = get_or bytes p.index 0 in
    let here : p.index < (get_or pieces k d).end.0 = omega (arith, fits) in
    let at : IsAtCode bytes pieces k p n = at_code h (open-before-end pieces k p d lt here) in
    let ending : is_line_ending_byte b ≡ true = ending_byte b (inl feed) in
    let one : p.index + 1 ≡ p.index + line_ending_len b (drop (p.index + 1) bytes) = ap (λ m. p.index + m) (sym (feed-len b (drop (p.index + 1) bytes) feed)) in
    let stop : line_start (p.line + 1) (p.index + 1) ≡ next_point bytes p = ap (line_start (p.line + 1)) one ∙ next_ending bytes p h.standing.is_point at.in_bytes ending in
    next-within h d lt here 10 (line_start (p.line + 1) (p.index + 1)) (value_ending bytes p h.standing.is_point at.in_bytes ending) stop fits

-- the code at an ordinary byte is that byte
pub plain_code : {bytes : List ℕ} {pieces : List Piece} {k : ℕ} {p e : Point} {before : Option ℕ} {n : ℕ} →
    IsCursor bytes pieces k p e before n → (d : Piece) → k < length pieces → p.index < (get_or pieces k d).end.0 →
    13 < get_or bytes p.index 0 → code_at (content_place bytes pieces n) ≡ Some (get_or bytes p.index 0)
plain_code h d lt fits plain = (plain_byte h d lt fits plain).code

shut-row : (pieces : List Piece) (k : ℕ) (q : Point) (d : Piece) → k < length pieces →
    q.index ≡ (get_or pieces k d).end.0 → q.vs ≡ (get_or pieces k d).end.1 → is_open (place_of q) (drop k pieces) ≡ false
shut-row pieces k q d lt i v =
    ap (λ (x : List Piece). is_open (place_of q) x) (drop_more pieces k d lt) ∙ ap not (and_from (q.index == (get_or pieces k d).end.0) (q.vs == (get_or pieces k d).end.1) (eq-eqb q.index (get_or pieces k d).end.0 i) (eq-eqb q.vs (get_or pieces k d).end.1 v))

-- past an ordinary byte of the last piece
pub past_last : {bytes : List ℕ} {pieces : List Piece} {k : ℕ} {p e : Point} {before : Option ℕ} {n : ℕ} →
    IsCursor bytes pieces k p e before n → (d : Piece) → k + 1 ≡ length pieces → p.index < (get_or pieces k d).end.0 →
    13 < get_or bytes p.index 0 →
    IsCursor bytes pieces k (next_column p (p.index + 1) 0) (next_column p (p.index + 1) 0) (Some (get_or bytes p.index 0)) (n + 1)
past_last {bytes} {pieces} {k} {p} {e} {before} {n} h d last here plain =
    let b : ℕ = get_or bytes p.index 0 in
    let q : Point = next_column p (p.index + 1) 0 in
    let byte : IsByte bytes pieces p n = plain_byte h d (omega (arith, last)) here plain in
    cursor_next (content_place bytes pieces n) k b q q h refl (some-here (code_at (content_place bytes pieces n)) b byte.code) byte.value byte.stop (followed-last bytes pieces k q (omega (arith, last)))

-- behind an ordinary byte that ends the last piece there is no code
pub plain_last : {bytes : List ℕ} {pieces : List Piece} {k : ℕ} {p e : Point} {before : Option ℕ} {n : ℕ} →
    IsCursor bytes pieces k p e before n → (d : Piece) → k + 1 ≡ length pieces →
    p.index + 1 ≡ (get_or pieces k d).end.0 → 0 ≡ (get_or pieces k d).end.1 → 13 < get_or bytes p.index 0 →
    code_at (content_place bytes pieces (n + 1)) ≡ None
plain_last {bytes} {pieces} {k} {p} {e} {before} {n} h d last i v plain =
    let q : Point = next_column p (p.index + 1) 0 in
    sym (cursor_end (past_last h d last (omega (arith, i)) plain) (shut-row pieces k q d (omega (arith, last)) i v))

-- the code at a line feed is a line ending
pub feed_code : {bytes : List ℕ} {pieces : List Piece} {k : ℕ} {p e : Point} {before : Option ℕ} {n : ℕ} →
    IsCursor bytes pieces k p e before n → (d : Piece) → k < length pieces → p.index < (get_or pieces k d).end.0 →
    get_or bytes p.index 0 ≡ 10 → code_at (content_place bytes pieces n) ≡ Some 10
feed_code {bytes} {pieces} {k} {p} {e} {before} {n} h d lt fits feed =
    let at : IsAtCode bytes pieces k p n = at_code h (open-before-end pieces k p d lt fits) in
    sym at.value ∙ value_ending bytes p h.standing.is_point at.in_bytes (ending_byte (get_or bytes p.index 0) (inl feed))
