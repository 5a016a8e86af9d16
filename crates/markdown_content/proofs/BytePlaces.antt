-- Which bytes of a document begin at a place of it.
use Rattle.std.proofs.Common.{ℕ, zero, suc, ◌+◌, ◌-◌, ◌*◌, ◌<◌, ◌≤◌, Bool, true, false, not, ◌&&◌, ◌==◌, nat_lt, ◌≡◌, arith, List, ◌∷◌, length, drop, get_or, refl, sym, ap, subst, ◌∙◌, inl, inr}
use Rattle.std.proofs.lemmas.List.{drop_more, drop_all, get_or_past}
use Rattle.std.proofs.lemmas.Bool.{both_ways, and_parts, and_from, eqb-true, eqb-false, eq-eqb, cases_Bool, cases_lt, false_from_ne_true}
use Rattle.std.proofs.lemmas.Bool.Decides.{nat_tests}
use Rattle.markdown_event.specs.declared.event.Point.{Point}
use Rattle.markdown_content.specs.Codes.{carriage_return, line_feed, tab_value, document_start, is_line_ending_byte, line_ending_len, place_of, point_at}
use Rattle.markdown_content.specs.Content.{is_place}
use Rattle.markdown_content.specs.DocumentWalk.{IsPoint}
use Rattle.markdown_content.proofs.PlaceOrder.{is_before, same_place}
use Rattle.markdown_content.proofs.DocumentCodes.{stop_at, tab_left, len-one, len-two}
use Rattle.markdown_content.proofs.DocumentWalkLemmas.{stop-ending}
use Rattle.markdown_content.proofs.DocumentPlaces.{point_start, next, IsNextPlace, there, IsThere, toward, IsToward, stands-there, stands-point, same-pair, vs-small}
use Rattle.markdown_content.proofs.WalkTargets.{place-point}

-- no line ending has its two bytes on the two sides of an index
abbrev SplitsNoEnding : List ℕ → ℕ → Type 0
SplitsNoEnding bytes i = 0 < i → get_or bytes (i - 1) 0 ≡ carriage_return → get_or bytes i 0 ≡ line_feed → ⊥

late-index : (i a v : ℕ) → a < i → is_before (i, 0) (a, v) ≡ false
late-index i a v h = grind (arith, nat_tests)

late-byte : (i a : ℕ) → a ≤ i → is_before (i, 0) (a, 0) ≡ false
late-byte i a h = grind (arith, nat_tests)

early-index : (a v i w : ℕ) → a < i → is_before (a, v) (i, w) ≡ true
early-index a v i w h = grind (arith, nat_tests)

before-index : (a v i : ℕ) → is_before (a, v) (i, 0) ≡ true → a < i
before-index a v i h = grind (arith, nat_tests)

-- A code that begins before such an index ends there or before it.

two-more : (bytes : List ℕ) (j i : ℕ) → j < i → SplitsNoEnding bytes i → get_or bytes j 0 ≡ carriage_return →
    get_or bytes (j + 1) 0 ≡ line_feed → j + 2 ≤ i
two-more bytes j i lt clear cr lf = grind (arith, cases_lt)

len-short : (b c : ℕ) (cs : List ℕ) (j i : ℕ) (t : Bool) → (b == carriage_return && c == line_feed) ≡ t → j < i →
    (t ≡ true → j + 2 ≤ i) → j + line_ending_len b (c ∷ cs) ≤ i
len-short b c cs j i true h lt two =
    let n : line_ending_len b (c ∷ cs) ≡ 2 = len-two b c cs h in
    omega (arith, n, two refl)
len-short b c cs j i false h lt two =
    let n : line_ending_len b (c ∷ cs) ≡ 1 = len-one b c cs h in
    omega (arith, n, lt)

ending-short : (bytes : List ℕ) (j i : ℕ) → j < i → SplitsNoEnding bytes i →
    j + line_ending_len (get_or bytes j 0) (drop (j + 1) bytes) ≤ i
ending-short bytes j i lt clear = grind (arith, cases_lt, two-more, eqb-true, and_parts, drop_more, len-short, drop_all)

other-by : (bytes : List ℕ) (p : Point) (i : ℕ) → p.index < i → is_line_ending_byte (get_or bytes p.index 0) ≡ false →
    (b : Bool) → (get_or bytes p.index 0 == tab_value && nat_lt 0 (tab_left p)) ≡ b →
    is_before (i, 0) (place_of (stop_at bytes p)) ≡ false
other-by bytes p i lt h true k = rw (h, k) (late-index i p.index (p.vs + 1) lt)
other-by bytes p i lt h false k = rw (h, k) (late-byte i (p.index + 1) (omega (arith, lt)))

stop-by : (bytes : List ℕ) (p : Point) (i : ℕ) → p.index < i → SplitsNoEnding bytes i → (b : Bool) →
    is_line_ending_byte (get_or bytes p.index 0) ≡ b → is_before (i, 0) (place_of (stop_at bytes p)) ≡ false
stop-by bytes p i lt clear true h =
    let n : ℕ = line_ending_len (get_or bytes p.index 0) (drop (p.index + 1) bytes) in
    subst (λ (q : Point). is_before (i, 0) (place_of q) ≡ false) (stop-ending bytes p h) (late-byte i (p.index + n) (ending-short bytes p.index i lt clear))
stop-by bytes p i lt clear false h =
    other-by bytes p i lt h (get_or bytes p.index 0 == tab_value && nat_lt 0 (tab_left p)) refl

stop-toward : (bytes : List ℕ) (p : Point) (i : ℕ) → p.index < i → SplitsNoEnding bytes i →
    is_before (i, 0) (place_of (stop_at bytes p)) ≡ false
stop-toward bytes p i lt clear = stop-by bytes p i lt clear (is_line_ending_byte (get_or bytes p.index 0)) refl

-- So such an index is a place.

few-next : (m i a b : ℕ) → i ≤ suc m + a → a + 1 ≤ b → i ≤ m + b
few-next m i a b h k = omega arith

none-left : (i a v : ℕ) → a < i → v ≤ 3 → 4 * i ≤ 0 + (4 * a + v) → ⊥
none-left i a v h k l = omega arith

place-here : (bytes : List ℕ) (p : Point) (i : ℕ) → IsPoint bytes p → is_before (i, 0) (place_of p) ≡ false →
    is_before (place_of p) (i, 0) ≡ false → is_place bytes (i, 0) ≡ true
place-here bytes p i h order other =
    let same : (p.index ≡ i) × (p.vs ≡ 0) = same_place (place_of p) (i, 0) other order in
    ap (λ (x : ℕ × ℕ). is_place bytes x) (sym (same-pair p.index p.vs (i, 0) same.0 same.1)) ∙ place-point bytes p h

byte-by : (m : ℕ) (bytes : List ℕ) (p : Point) (i : ℕ) → IsPoint bytes p → is_before (i, 0) (place_of p) ≡ false →
    i ≤ length bytes → SplitsNoEnding bytes i → 4 * i ≤ m + (4 * p.index + p.vs) → is_place bytes (i, 0) ≡ true
byte-by zero bytes p i h order inside clear few =
    elim (cases_Bool (is_before (place_of p) (i, 0))) [
      | inl before ↦
          absurd (none-left i p.index p.vs (before-index p.index p.vs i before) (vs-small bytes p (stands-point bytes p h)) few)
      | inr other ↦ place-here bytes p i h order other
    ]
byte-by (suc m) bytes p i h order inside clear few =
    elim (cases_Bool (is_before (place_of p) (i, 0))) [
      | inl before ↦
          let lt : p.index < i = before-index p.index p.vs i before in
          let one : IsNextPlace bytes p = next bytes p h (omega (arith, lt, inside)) in
          let q : Point = stop_at bytes p in
          byte-by m bytes q i one.point (stop-toward bytes p i lt clear) inside clear (few-next m (4 * i) (4 * p.index + p.vs) (4 * q.index + q.vs) few one.counts)
      | inr other ↦ place-here bytes p i h order other
    ]

byte-place : (bytes : List ℕ) (i : ℕ) → i ≤ length bytes → SplitsNoEnding bytes i → is_place bytes (i, 0) ≡ true
byte-place bytes i inside clear =
    byte-by (4 * i) bytes document_start i (point_start bytes) (late-byte i 0 (omega arith)) inside clear (omega arith)

-- Any other is none.

past-feed : (bytes : List ℕ) (q : Point) (i : ℕ) → q.index + 1 ≡ i → i < length bytes →
    get_or bytes q.index 0 ≡ carriage_return → get_or bytes i 0 ≡ line_feed →
    is_before (i, 0) (place_of (stop_at bytes q)) ≡ true
past-feed bytes q i e lt cr lf = grind (arith, and_from, eq-eqb, drop_more, len-two, stop-ending, early-index)

not-both : (b : ℕ) → b ≡ carriage_return → b ≡ line_feed → ⊥
not-both b h k = omega (arith, h, k)

byte-inside : (bytes : List ℕ) (i : ℕ) → 0 < i → i < length bytes → get_or bytes (i - 1) 0 ≡ carriage_return →
    get_or bytes i 0 ≡ line_feed → is_place bytes (i, 0) ≡ false
byte-inside bytes i pos lt cr lf =
    false_from_ne_true (is_place bytes (i, 0))
    (λ k.
    let here : is_place bytes (i - 1, 0) ≡ true = byte-place bytes (i - 1) (omega (arith, lt)) (λ _ _ feed. not-both (get_or bytes (i - 1) 0) cr feed) in
    let t : IsThere bytes (i - 1, 0) = there bytes (i - 1, 0) here in
    let q : Point = point_at bytes (i - 1, 0) in
    let index : q.index ≡ i - 1 = ap (λ (x : ℕ × ℕ). x.0) t.place in
    let before : is_before (place_of q) (i, 0) ≡ true = ap (λ (x : ℕ × ℕ). is_before x (i, 0)) t.place ∙ early-index (i - 1) 0 i 0 (omega (arith, pos)) in
    let w : IsToward bytes q (i, 0) = toward bytes q (i, 0) t.point (there bytes (i, 0) k) before in
    both_ways (is_before (i, 0) (place_of (stop_at bytes q))) w.reached (past-feed bytes q i (omega (arith, index, pos)) lt (ap (λ (x : ℕ). get_or bytes x 0) index ∙ cr) lf))

-- The end, and beyond it.

end-clear : (bytes : List ℕ) (i : ℕ) → length bytes ≤ i → SplitsNoEnding bytes i
end-clear bytes i h pos cr lf = omega (arith, get_or_past bytes i 0 h, lf)

beyond : (bytes : List ℕ) (i : ℕ) → length bytes < i → is_place bytes (i, 0) ≡ false
beyond bytes i h =
    false_from_ne_true (is_place bytes (i, 0)) (λ k. omega (arith, h, (stands-there bytes (i, 0) (there bytes (i, 0) k)).0))

end-by : (bytes : List ℕ) (i : ℕ) (r : Bool) → length bytes ≤ i → (i == length bytes) ≡ r → r ≡ is_place bytes (i, 0)
end-by bytes i true h e =
    sym (byte-place bytes i (omega (arith, eqb-true i (length bytes) e)) (end-clear bytes i h))
end-by bytes i false h e = sym (beyond bytes i (omega (arith, h, eqb-false i (length bytes) e)))

pub end-place : (bytes : List ℕ) (i : ℕ) → length bytes ≤ i → (i == length bytes) ≡ is_place bytes (i, 0)
end-place bytes i h = end-by bytes i (i == length bytes) h refl

-- The tests of an index.

pub start-place : (bytes : List ℕ) (i : ℕ) → i ≡ 0 → true ≡ is_place bytes (i, 0)
start-place bytes i e =
    sym (byte-place bytes i (omega (arith, e)) (λ pos cr feed. absurd (omega (arith, e, pos))))

pub other-place : (bytes : List ℕ) (i : ℕ) → i < length bytes → (get_or bytes i 0 ≡ line_feed → ⊥) →
    true ≡ is_place bytes (i, 0)
other-place bytes i lt other = sym (byte-place bytes i (omega (arith, lt)) (λ pos cr feed. other feed))

feed-by : (bytes : List ℕ) (i : ℕ) (t : Bool) → 0 < i → i < length bytes → get_or bytes i 0 ≡ line_feed →
    (get_or bytes (i - 1) 0 == carriage_return) ≡ t → not t ≡ is_place bytes (i, 0)
feed-by bytes i true pos lt lf h =
    sym (byte-inside bytes i pos lt (eqb-true (get_or bytes (i - 1) 0) carriage_return h) lf)
feed-by bytes i false pos lt lf h =
    sym (byte-place bytes i (omega (arith, lt)) (λ _ cr _. eqb-false (get_or bytes (i - 1) 0) carriage_return h cr))

pub feed-place : (bytes : List ℕ) (i : ℕ) → 0 < i → i < length bytes → get_or bytes i 0 ≡ line_feed →
    not (get_or bytes (i - 1) 0 == carriage_return) ≡ is_place bytes (i, 0)
feed-place bytes i pos lt lf = feed-by bytes i (get_or bytes (i - 1) 0 == carriage_return) pos lt lf refl
