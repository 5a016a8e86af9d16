-- The virtual spaces at both ends of a position.
use Rattle.std.proofs.Common.{ℕ, ◌+◌, ◌-◌, ◌%◌, ◌<◌, ◌≤◌, ◌^◌, true, false, ◌&&◌, nat_lt, ◌==◌, ◌≡◌, arith, List, length, refl, sym, ap, ◌∙◌, if◌then◌else◌, ◌⊎◌, inl, inr, IsTrue}
use Rattle.std.proofs.lemmas.Bool.{cases_lt, cases_eq, eq-eqb, ne_eqb, lt-ltb, le-ltb}
use Rattle.std.proofs.lemmas.Bool.Decides.{nat_tests}
use Rattle.markdown_event.specs.declared.event.Point.{Point}
use Rattle.markdown_content.specs.Codes.{tab_width, place_of, is_at_or_after}
use Rattle.markdown_content.specs.Content.{document_limit}
use Rattle.markdown_content.specs.DocumentWalk.{IsPoint}
use Rattle.markdown_content.specs.Slices.{codes_between, virtual_spaces, byte_from, spaces_before, spaces_after}
use Rattle.markdown_content.proofs.PlaceOrder.{is_before}
use Rattle.markdown_content.proofs.DocumentCodes.{HasPlaceNumbers, tab_left}
use Rattle.markdown_content.proofs.DocumentPlaces.{stands-point}
use Rattle.markdown_content.proofs.WalkSteps.{not_past}
use Rattle.markdown_content.proofs.ContentCodes.{piece-codes-is}
use Rattle.markdown_content.proofs.CodesBetween.{codes_to, spaces-inside, spaces-out, spaces-in}

between-is : (bytes : List ℕ) (p q : Point) → codes_between bytes p q ≡ codes_to bytes p q
between-is bytes p q = piece-codes-is bytes (record { start = place_of p; end = place_of q })

virtual-is : (bytes : List ℕ) (i : ℕ) (p q : Point) →
    virtual_spaces i (codes_to bytes p q) ≡ virtual_spaces i (codes_between bytes p q)
virtual-is bytes i p q = ap (λ cs. virtual_spaces i cs) (sym (between-is bytes p q))

abbrev pub columns_in : Point → Point → ℕ
columns_in p q = if p.index == q.index then q.vs - p.vs else tab_width p

width-more : (c : ℕ) → 4 - (c - 1) % 4 - 1 + 1 ≡ 4 - (c - 1) % 4
width-more c = omega arith

less-sum : (n v w : ℕ) → n + v ≡ w → w - v ≡ n
less-sum n v w h = omega arith

order-index : (a b c d : ℕ) → is_before (c, d) (a, b) ≡ false → (a ≡ c → ⊥) → a < c
order-index a b c d h k = grind (arith, nat_tests)

before-inside : (bytes : List ℕ) (p q : Point) → IsPoint bytes p → IsPoint bytes q →
    is_before (place_of q) (place_of p) ≡ false → 0 < p.vs →
    columns_in p q ≡ virtual_spaces p.index (codes_between bytes p q)
before-inside bytes p q h k l in_tab =
    elim (cases_eq p.index q.index) [
      | inl e ↦
          let all : virtual_spaces q.index (codes_to bytes p q) + p.vs ≡ q.vs = spaces-inside bytes p q (codes_to bytes p q) refl h k l e in_tab in
          rw (eq-eqb p.index q.index e) (less-sum (virtual_spaces q.index (codes_to bytes p q)) p.vs q.vs all ∙ ap (λ i. virtual_spaces i (codes_to bytes p q)) (sym e) ∙ virtual-is bytes p.index p q)
      | inr e ↦
          let out : virtual_spaces p.index (codes_to bytes p q) ≡ tab_left p + 1 = spaces-out bytes p q (codes_to bytes p q) refl h k l (order-index p.index p.vs q.index q.vs l e) in_tab in
          rw (ne_eqb p.index q.index e) (sym (width-more p.column) ∙ sym out ∙ virtual-is bytes p.index p q)
    ]

pub before-is : (bytes : List ℕ) (p q : Point) → IsPoint bytes p → IsPoint bytes q →
    IsTrue (is_at_or_after (place_of p) (place_of q)) →
    (if nat_lt 0 p.vs then columns_in p q else 0) ≡ spaces_before bytes p q
unfolding spaces_before
before-is bytes p q h k l = grind (arith, cases_lt, lt-ltb, before-inside, not_past, le-ltb)

begins-in-first : (a b c : ℕ) → (a < c) ⊎ ((a ≡ c) × (b ≡ 0)) → is_at_or_after (a, b) (c, 0) ≡ true
begins-in-first a b c h = grind (arith, nat_tests)

begins-in-second : (a b c : ℕ) → (a < c) ⊎ ((a ≡ c) × (b ≡ 0)) → (a == c && nat_lt 0 b) ≡ false
begins-in-second a b c h = grind (arith, nat_tests)

begins-in : (a b c : ℕ) → (a < c) ⊎ ((a ≡ c) × (b ≡ 0)) →
    (is_at_or_after (a, b) (c, 0) ≡ true) × ((a == c && nat_lt 0 b) ≡ false)
begins-in a b c h = (begins-in-first a b c h, begins-in-second a b c h)

begins-out : (a b c : ℕ) → a ≡ c → 0 < b → is_at_or_after (a, b) (c, 0) ≡ false
begins-out a b c h k = grind (arith, nat_tests)

begins-test : (a b c : ℕ) → a ≡ c → 0 < b → (a == c && nat_lt 0 b) ≡ true
begins-test a b c h k = grind (arith, nat_tests)

begins-cases : (a b c d : ℕ) → is_before (c, d) (a, b) ≡ false → ((a < c) ⊎ ((a ≡ c) × (b ≡ 0))) ⊎ ((a ≡ c) × (0 < b))
begins-cases a b c d h = grind (arith, cases_eq, cases_lt, order-index)

pub after-is : (bytes : List ℕ) (p q : Point) → IsPoint bytes p → IsPoint bytes q →
    IsTrue (is_at_or_after (place_of p) (place_of q)) →
    (if p.index == q.index && nat_lt 0 p.vs then 0 else q.vs - 1) ≡ spaces_after bytes p q
unfolding spaces_after
after-is bytes p q h k l =
    let order : is_before (place_of q) (place_of p) ≡ false = not_past (place_of p) (place_of q) l in
    elim (begins-cases p.index p.vs q.index q.vs order) [
      | inl e ↦
          let tests : (is_at_or_after (place_of p) (q.index, 0) ≡ true) × ((p.index == q.index && nat_lt 0 p.vs) ≡ false) = begins-in p.index p.vs q.index e in
          rw (tests.0, tests.1) (sym (spaces-in bytes p q (codes_to bytes p q) refl h k order e) ∙ virtual-is bytes q.index p q)
      | inr e ↦ rw (begins-out p.index p.vs q.index e.0 e.1, begins-test p.index p.vs q.index e.0 e.1) refl
    ]

-- the bytes of a position lie in the document
pub byte_from-in : (bytes : List ℕ) (p : Point) → IsPoint bytes p → byte_from p ≤ length bytes
byte_from-in bytes p h =
    let s : HasPlaceNumbers bytes p = stands-point bytes p h in
    elim (cases_lt 0 p.vs) [
      | inl e ↦ let lt : p.index < length bytes = (s.in_tab e).0 in rw (lt-ltb 0 p.vs e) (omega arith)
      | inr e ↦ rw (le-ltb 0 p.vs e) s.in_bytes
    ]

pub byte-order : (a b c d : ℕ) → is_before (c, d) (a, b) ≡ false →
    (if nat_lt 0 b then a + 1 else a) ≤ (if nat_lt 0 d then c + 1 else c)
byte-order a b c d h = grind (arith, nat_tests)

pub byte_from-order : (p q : Point) → IsTrue (is_at_or_after (place_of p) (place_of q)) → byte_from p ≤ byte_from q
byte_from-order p q l = byte-order p.index p.vs q.index q.vs (not_past (place_of p) (place_of q) l)

pub index_fits : (bytes : List ℕ) (p : Point) → IsPoint bytes p → length bytes ≤ document_limit → p.index < 2 ^ 63
index_fits bytes p h fits = let s : HasPlaceNumbers bytes p = stands-point bytes p h in omega (arith, s.in_bytes)
