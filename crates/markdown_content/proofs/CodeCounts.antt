-- How many codes of a content are a byte: no more than its pieces have such bytes.
use Rattle.std.proofs.Common.{◌≡◌, ℕ, zero, suc, ◌+◌, ◌*◌, ◌-◌, ◌<◌, ◌≤◌, ◌==◌, ◌&&◌, nat_le, nat_lt, min, Bool, true, false, cond, if◌then◌else◌, List, [], ◌∷◌, length, drop, take, filter, get_or, inl, inr, refl, sym, ap, ◌∙◌, arith}
use Rattle.std.specs.List.{count_by, list_any, slice_range}
use Rattle.std.proofs.lemmas.Bool.{cases_Bool, cases_lt}
use Rattle.std.proofs.lemmas.Bool.Decides.{nat_tests}
use Rattle.std.proofs.lemmas.List.{drop-drop, drop_all, drop_more, get_or-drop, length-drop, length-take}
use Rattle.std.proofs.Math.Seq.{take-add}
use Rattle.std.proofs.lemmas.List.Sums.{count_by-le-length, count_by_more_no, count_by_more_yes, sum_by-append, sum_by-cons}
use Rattle.markdown_event.specs.declared.event.Point.{Point}
use Rattle.markdown_content.specs.declared.parser.Piece.{Piece}
use Rattle.markdown_content.specs.Codes.{Code, codes_of, count_among, is_code_before, is_line_ending_byte, place_of, point_at, tab_value}
use Rattle.markdown_content.specs.Content.{are_pieces, content_of, piece_codes}
use Rattle.markdown_content.specs.DocumentWalk.{codes_after, IsPoint}
use Rattle.markdown_content.proofs.PlaceOrder.{is_before}
use Rattle.markdown_content.proofs.AdjacentCodes.{cons≢nil, head_same, tail_same}
use Rattle.markdown_content.proofs.DocumentCodes.{code_here, stop_at, value_at}
use Rattle.markdown_content.proofs.DocumentWalkLemmas.{stop-plain}
use Rattle.markdown_content.proofs.DocumentPlaces.{stands-point, there, toward, IsThere, IsToward, there-point}
use Rattle.markdown_content.proofs.ContentCodes.{none-before, piece-codes-is, piece_row, IsPieceRow}
use Rattle.markdown_content.proofs.CodesBetween.{codes_to, first-to}

-- Bytes.

-- how many bytes from an index up to another are this one
abbrev pub hits : List ℕ → ℕ → ℕ → ℕ → ℕ
hits bytes b from to = count_by (λ x. x == b) (slice_range bytes from to)

-- in groups of sixteen
pub groups-more : (bytes : List ℕ) (b from group : ℕ) →
    count_by (λ x. x == b) (take (16 * group) (drop from bytes)) + count_by (λ x. x == b) (take 16 (drop (from + 16 * group) bytes))
    ≡ count_by (λ x. x == b) (take (16 * (group + 1)) (drop from bytes))
groups-more bytes b from group =
    let size : 16 * (group + 1) ≡ 16 * group + 16 = omega arith in
    let rest : List ℕ = drop from bytes in
    sym (
    ap (λ n. count_by (λ x. x == b) (take n rest)) size
    ∙ ap (count_by (λ x. x == b)) (take-add (16 * group) 16 rest)
    ∙ sum_by-append (λ (x : ℕ). cond (x == b) 1 0) (take (16 * group) rest) (take 16 (drop (16 * group) rest))
    ∙ ap (λ xs. count_by (λ x. x == b) (take (16 * group) rest) + count_by (λ x. x == b) (take 16 xs)) (drop-drop (16 * group) from bytes)
    )

pub few-taken : (b n : ℕ) (xs : List ℕ) → count_by (λ x. x == b) (take n xs) ≤ n
few-taken b n xs = omega (arith, count_by-le-length (λ x. x == b) (take n xs), length-take n xs)

-- one byte more
pub hits-more : (bytes : List ℕ) (b from at : ℕ) (t : Bool) → from ≤ at → at < length bytes → (get_or bytes at 0 == b) ≡ t →
    hits bytes b from at + cond t 1 0 ≡ hits bytes b from (at + 1)
hits-more bytes b from at t up lt e =
    let rest : List ℕ = drop from bytes in
    let size : at + 1 - from ≡ at - from + 1 = omega (arith, up) in
    let here : from + (at - from) ≡ at = omega (arith, up) in
    let long : at - from < length rest = omega (arith, length-drop from bytes, up, lt) in
    let is : get_or rest (at - from) 0 ≡ get_or bytes at 0 = get_or-drop from bytes (at - from) 0 ∙ ap (λ i. get_or bytes i 0) here in
    by-test t (ap (λ x. x == b) is ∙ e) long size
  where
    by-test : (t : Bool) → (get_or (drop from bytes) (at - from) 0 == b) ≡ t → at - from < length (drop from bytes) → at + 1 - from ≡ at - from + 1
        → hits bytes b from at + cond t 1 0 ≡ hits bytes b from (at + 1)
    by-test true k long size = omega (arith, count_by_more_yes (λ x. x == b) (drop from bytes) (at - from) 0 long k, ap (λ n. count_by (λ x. x == b) (take n (drop from bytes))) size)
    by-test false k long size = omega (arith, count_by_more_no (λ x. x == b) (drop from bytes) (at - from) 0 long k, ap (λ n. count_by (λ x. x == b) (take n (drop from bytes))) size)

hits-none : (bytes : List ℕ) (b i k : ℕ) → k ≤ i → hits bytes b i k ≡ 0
hits-none bytes b i k h =
    let none : k - i ≡ 0 = omega (arith, h) in ap (λ n. count_by (λ x. x == b) (take n (drop i bytes))) none

hits-first : (bytes : List ℕ) (b i k : ℕ) → i < k → k ≤ length bytes →
    hits bytes b i k ≡ cond (get_or bytes i 0 == b) 1 0 + hits bytes b (i + 1) k
hits-first bytes b i k lt within =
    let size : k - i ≡ suc (k - (i + 1)) = omega (arith, lt) in
    ap (λ n. count_by (λ x. x == b) (take n (drop i bytes))) size
    ∙ ap (λ xs. count_by (λ x. x == b) (take (suc (k - (i + 1))) xs)) (drop_more bytes i 0 (omega (arith, lt, within)))
    ∙ sum_by-cons (λ (x : ℕ). cond (x == b) 1 0) (get_or bytes i 0) (take (k - (i + 1)) (drop (i + 1) bytes))

hits-on : (bytes : List ℕ) (b d i k : ℕ) → k ≤ length bytes → hits bytes b (i + d) k ≤ hits bytes b i k
hits-on bytes b zero i k within = omega (arith, ap (λ j. hits bytes b j k) (same i))
  where
    same : (i : ℕ) → i + 0 ≡ i
    same i = omega arith
hits-on bytes b (suc d) i k within =
    elim (cases_lt i k) [
      | inl lt ↦
          let next : i + suc d ≡ i + 1 + d = omega arith in
          omega (arith, ap (λ j. hits bytes b j k) next, hits-on bytes b d (i + 1) k within, hits-first bytes b i k lt within)
      | inr ge ↦ omega (arith, hits-none bytes b (i + suc d) k (omega (arith, ge)))
    ]

hits-later : (bytes : List ℕ) (b i j k : ℕ) → k ≤ length bytes → i ≤ j → hits bytes b j k ≤ hits bytes b i k
hits-later bytes b i j k within h =
    let on : i + (j - i) ≡ j = omega (arith, h) in
    omega (arith, ap (λ n. hits bytes b n k) on, hits-on bytes b (j - i) i k within)

-- Codes.

-- the code has this value
abbrev is_one : ℕ → ℕ → Bool
is_one b v = list_any (λ n. v == n) (b ∷ [])

one-is : (b v : ℕ) → is_one b v ≡ true → v ≡ b
one-is b v h = grind (arith, nat_tests)

byte-is : (x b : ℕ) (t : Bool) → 32 < b → (if is_line_ending_byte x then 10 else (if (x == 9) && t then 32 else x)) ≡ b → x ≡ b
byte-is x b t ink = by-cases (is_line_ending_byte x) ((x == 9) && t)
  where
    by-cases : (y z : Bool) → (if y then 10 else (if z then 32 else x)) ≡ b → x ≡ b
    by-cases true z e = absurd (omega (arith, ink, e))
    by-cases false true e = absurd (omega (arith, ink, e))
    by-cases false false e = e

ink-plain : (x b : ℕ) → 32 < b → x ≡ b → (is_line_ending_byte x ≡ false) × ((x == tab_value) ≡ false)
ink-plain x b ink e = (grind (arith, nat_tests), grind (arith, nat_tests))

up-to : (a b c d : ℕ) → is_before (c, d) (a, b) ≡ false → a ≤ c
up-to a b c d h = grind (arith, nat_tests)

on-from : (a b c d : ℕ) → is_before (a, b) (c, d) ≡ true → a ≤ c
on-from a b c d h = grind (arith, nat_tests)

in-tab : (a b c d : ℕ) → is_before (a, b) (c, d) ≡ true → c ≤ a → (a ≡ c) × (0 < d)
in-tab a b c d h k = (grind (arith, nat_tests), grind (arith, nat_tests))

-- where the byte stands, its code ends behind it
record IsByteHere (bytes : List ℕ) (b : ℕ) (p q : Point) : Type 0 where
  byte : get_or bytes p.index 0 ≡ b
  before : p.index < q.index
  stop : (stop_at bytes p).index ≡ p.index + 1

byte-here : (bytes : List ℕ) (b : ℕ) (p q : Point) → 32 < b → IsPoint bytes q → is_before (place_of p) (place_of q) ≡ true →
    is_one b (value_at bytes p) ≡ true → IsByteHere bytes b p q
byte-here bytes b p q ink k before is = grind (arith, byte-is, one-is, ink-plain, cases_lt, in-tab, stands-point, stop-plain)

first-few : (bytes : List ℕ) (b : ℕ) (p q : Point) → 32 < b → IsPoint bytes q → is_before (place_of p) (place_of q) ≡ true →
    p.index ≤ (stop_at bytes p).index →
    cond (is_one b (value_at bytes p)) 1 0 + hits bytes b (stop_at bytes p).index q.index ≤ hits bytes b p.index q.index
first-few bytes b p q ink k before later =
    let within : q.index ≤ length bytes = (stands-point bytes q k).in_bytes in
    elim (cases_Bool (is_one b (value_at bytes p))) [
      | inl is ↦
          let h : IsByteHere bytes b p q = byte-here bytes b p q ink k before is in
          let here : (get_or bytes p.index 0 == b) ≡ true = same (get_or bytes p.index 0) b h.byte in
          omega (arith, ap {B = ℕ} (λ (t : Bool). cond t 1 0) is, ap (λ j. hits bytes b j q.index) h.stop, hits-first bytes b p.index q.index h.before within, ap {B = ℕ} (λ (t : Bool). cond t 1 0) here)
      | inr other ↦ omega (arith, ap {B = ℕ} (λ (t : Bool). cond t 1 0) other, hits-later bytes b p.index (stop_at bytes p).index q.index within later)
    ]
  where
    same : (x y : ℕ) → x ≡ y → (x == y) ≡ true
    same x y e = grind (arith, nat_tests)

count-first : (b : ℕ) (c : Code) (cs : List Code) → count_among (b ∷ []) (c ∷ cs) ≡ cond (is_one b c.value) 1 0 + count_among (b ∷ []) cs
count-first b c cs = sum_by-cons (λ (x : Code). cond (is_one b x.value) 1 0) c cs

-- from one place to another
few-to : (bytes : List ℕ) (b : ℕ) (p q : Point) (cs : List Code) → 32 < b → codes_to bytes p q ≡ cs → IsPoint bytes p → IsPoint bytes q →
    is_before (place_of q) (place_of p) ≡ false → count_among (b ∷ []) cs ≤ hits bytes b p.index q.index
few-to bytes b p q [] ink e h k l = omega arith
few-to bytes b p q (c ∷ cs) ink e h k l =
    elim (cases_Bool (is_before (place_of p) (place_of q))) [
      | inl before ↦
          let t : IsToward bytes p (place_of q) = toward bytes p (place_of q) h (there-point bytes q k) before in
          let o : Point = stop_at bytes p in
          let split : codes_to bytes p q ≡ code_here bytes p ∷ codes_to bytes o q = (first-to bytes p q h k before).codes in
          let is : c ≡ code_here bytes p = head_same c (code_here bytes p) cs (codes_to bytes o q) (sym e ∙ split) in
          let rest : codes_to bytes o q ≡ cs = sym (tail_same c (code_here bytes p) cs (codes_to bytes o q) (sym e ∙ split)) in
          omega (
            arith,
            count-first b c cs,
            ap {B = ℕ} (λ (x : Code). cond (is_one b x.value) 1 0) is,
            few-to bytes b o q cs ink rest t.next.point k t.reached,
            first-few bytes b p q ink k before (on-from p.index p.vs o.index o.vs t.next.later),
          )
      | inr other ↦ absurd (cons≢nil c cs (sym e ∙ none-before bytes p (place_of q) h other))
    ]

-- Pieces.

-- a piece has no more such codes than such bytes
pub few-in-piece : (bytes : List ℕ) (b : ℕ) (piece : Piece) (rest : List Piece) → 32 < b → are_pieces bytes (piece ∷ rest) ≡ true →
    let to : ℕ = min piece.end.0 (length bytes) in
    count_among (b ∷ []) (piece_codes (codes_of bytes) piece) ≤ hits bytes b (min piece.start.0 to) to
few-in-piece bytes b piece rest ink h =
    let row : IsPieceRow bytes piece rest = piece_row bytes piece rest h in
    let s : IsThere bytes piece.start = there bytes piece.start row.start in
    let t : IsThere bytes piece.end = there bytes piece.end row.end in
    let p : Point = point_at bytes piece.start in
    let q : Point = point_at bytes piece.end in
    let order : is_before (place_of q) (place_of p) ≡ false =
    ap (λ (x : ℕ × ℕ). is_before x (place_of p)) t.place ∙ ap (λ (x : ℕ × ℕ). is_before piece.end x) s.place ∙ row.in_order in
    let codes : piece_codes (codes_of bytes) piece ≡ codes_to bytes p q =
    piece-codes-is bytes piece
    ∙ ap (λ (x : ℕ × ℕ). filter (is_code_before x) (codes_after bytes piece.start)) (sym t.place)
    ∙ ap (λ (x : ℕ × ℕ). filter (is_code_before (place_of q)) (codes_after bytes x)) (sym s.place) in
    let first : p.index ≡ piece.start.0 = ap (λ (x : ℕ × ℕ). x.0) s.place in
    let last : q.index ≡ piece.end.0 = ap (λ (x : ℕ × ℕ). x.0) t.place in
    let within : q.index ≤ length bytes = (stands-point bytes q t.point).in_bytes in
    let up : p.index ≤ q.index = up-to p.index p.vs q.index q.vs order in
    let to : min piece.end.0 (length bytes) ≡ q.index = omega (arith, last, within) in
    let from : min piece.start.0 (min piece.end.0 (length bytes)) ≡ p.index = omega (arith, to, first, up) in
    omega (
      arith,
      ap (count_among (b ∷ [])) codes,
      few-to bytes b p q (codes_to bytes p q) ink refl s.point t.point order,
      ap (λ i. hits bytes b i q.index) from,
      ap (λ k. hits bytes b (min piece.start.0 (min piece.end.0 (length bytes))) k) to,
    )

-- of a piece and those behind it
pub count-pieces : (set : List ℕ) (bytes : List ℕ) (piece : Piece) (rest : List Piece) →
    count_among set (content_of bytes (piece ∷ rest)) ≡ count_among set (piece_codes (codes_of bytes) piece) + count_among set (content_of bytes rest)
count-pieces set bytes piece rest =
    sum_by-append (λ (c : Code). cond (list_any (λ n. c.value == n) set) 1 0) (piece_codes (codes_of bytes) piece) (content_of bytes rest)

-- The pieces one by one.

-- what is left of a number is not less than what is left of it beyond the codes of the first pieces
pub record IsCounting (bytes : List ℕ) (pieces : List Piece) (b times i left : ℕ) : Type 0 where
  pub row : are_pieces bytes (drop i pieces) ≡ true
  pub bound : count_among (b ∷ []) (content_of bytes pieces) + left ≤ times + count_among (b ∷ []) (content_of bytes (drop i pieces))

pub counting-start : (bytes : List ℕ) (pieces : List Piece) (b times : ℕ) → are_pieces bytes pieces ≡ true → IsCounting bytes pieces b times 0 times
counting-start bytes pieces b times h = record { row = h; bound = omega arith }

pub counting-step : (bytes : List ℕ) (pieces : List Piece) (d : Piece) (b times i left found to : ℕ) → 32 < b → i < length pieces → found < left →
    to ≡ min (get_or pieces i d).end.0 (length bytes) → found ≡ hits bytes b (min (get_or pieces i d).start.0 to) to →
    IsCounting bytes pieces b times i left → IsCounting bytes pieces b times (i + 1) (left - found)
counting-step bytes pieces d b times i left found to ink lt more last is c =
    let piece : Piece = get_or pieces i d in
    let rest : List Piece = drop (i + 1) pieces in
    let split : drop i pieces ≡ piece ∷ rest = drop_more pieces i d lt in
    let all : are_pieces bytes (piece ∷ rest) ≡ true = ap (are_pieces bytes) (sym split) ∙ c.row in
    let few : count_among (b ∷ []) (piece_codes (codes_of bytes) piece) ≤ hits bytes b (min piece.start.0 (min piece.end.0 (length bytes))) (min piece.end.0 (length bytes)) =
    few-in-piece bytes b piece rest ink all in
    let same : found ≡ hits bytes b (min piece.start.0 (min piece.end.0 (length bytes))) (min piece.end.0 (length bytes)) =
    is ∙ ap (λ k. hits bytes b (min piece.start.0 k) k) last in
    record {
      row = (piece_row bytes piece rest all).others;
      bound = omega (arith, more, c.bound, ap (λ ps. count_among (b ∷ []) (content_of bytes ps)) split, count-pieces (b ∷ []) bytes piece rest, few, same);
    }

pub counting-end : (bytes : List ℕ) (pieces : List Piece) (b times i left : ℕ) → length pieces ≤ i → 0 < left →
    IsCounting bytes pieces b times i left → count_among (b ∷ []) (content_of bytes pieces) < times
counting-end bytes pieces b times i left past some c =
    omega (arith, c.bound, ap (λ ps. count_among (b ∷ []) (content_of bytes ps)) (drop_all i pieces past))

-- the only byte of a set
pub one-of : (set : List ℕ) → length set ≡ 1 → get_or set 0 0 ∷ [] ≡ set
one-of [] h = absurd (omega (arith, h))
one-of (b ∷ []) h = refl
one-of (b ∷ d ∷ set) h = absurd (omega (arith, h))

pub fewer-than : (n times : ℕ) → n < times → false ≡ nat_le times n
fewer-than n times h = grind (arith, nat_tests)
