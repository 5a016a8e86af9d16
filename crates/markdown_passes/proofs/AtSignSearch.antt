-- whether an `@` stands in a stretch, by its bytes
use Rattle.std.proofs.Common.{◌≡◌, ◌≢◌, ℕ, ◌+◌, ◌-◌, ◌<◌, ◌≤◌, ◌==◌, ◌||◌, ◌&&◌, nat_lt, Bool, true, false, List, [], ◌∷◌, length, get_or, drop, refl, sym, ap, ◌∙◌, arith, ◌⊎◌, inl, inr, if◌then◌else◌}
use Rattle.std.specs.List.{IsAnyAnswer, list_any, slice_range}
use Rattle.std.proofs.lemmas.Bool.{and_parts, both_ways, cases_lt, cases_eq, eq-eqb, eqb-true, or_left, or_right}
use Rattle.std.proofs.lemmas.Bool.Decides.{nat_tests}
use Rattle.std.proofs.lemmas.List.{get_or-drop, get_or-take, length-drop, length-take-le}
use Rattle.markdown_content.specs.Codes.{Code, is_line_ending_byte, line_ending_len, line_start, next_column, place_of, tab_value}
use Rattle.markdown_content.specs.DocumentWalk.{IsPoint}
use Rattle.markdown_event.specs.declared.event.Point.{Point}
use Rattle.markdown_content.proofs.AdjacentCodes.{cons≢nil, tail_same}
use Rattle.markdown_content.proofs.PlaceOrder.{is_before, before-reach}
use Rattle.markdown_content.proofs.DocumentPlaces.{stands-point}
use Rattle.markdown_content.proofs.DocumentCodes.{code_here, stop_at, tab_left, value_at}
use Rattle.markdown_content.proofs.DocumentWalkLemmas.{value-plain}
use Rattle.markdown_model.specs.CodeTests.{is_value}
use Rattle.markdown_passes.specs.TrimmedData.{between, IsStretch}
use Rattle.markdown_passes.proofs.TrimWalks.{IsBegun, IsEnded, backward, stretch-cases}
use Rattle.markdown_passes.specs.EmailScan.{has_sign}

sign-first : (bytes : List ℕ) (p q : Point) → IsBegun bytes p q →
    has_sign bytes p q ≡ (value_at bytes p == 64) || has_sign bytes (stop_at bytes p) q
unfolding has_sign
sign-first bytes p q b = ap (list_any (is_value 64)) b.codes

sign-none : (bytes : List ℕ) (p q : Point) → IsEnded bytes p q → has_sign bytes p q ≡ false
unfolding has_sign
sign-none bytes p q d = ap (list_any (is_value 64)) d.none

-- The code `@` and the byte.

sign-plain : (b : ℕ) → b ≡ 64 → (is_line_ending_byte b ≡ false) × ((b == tab_value) ≡ false)
sign-plain b e = (grind (arith, nat_tests), grind (arith, nat_tests))

value-sign : (bytes : List ℕ) (p : Point) → get_or bytes p.index 0 ≡ 64 → (value_at bytes p == 64) ≡ true
value-sign bytes p e =
    let plain = sign-plain (get_or bytes p.index 0) e in
    ap (λ v. v == 64) (sym (value-plain bytes p plain.0 plain.1) ∙ e)

value-other : (b : ℕ) (t : Bool) → b ≢ 64 →
    ((if is_line_ending_byte b then 10 else (if (b == 9) && t then 32 else b)) == 64) ≡ false
value-other b t h = by-cases (is_line_ending_byte b) ((b == 9) && t)
  where
    by-cases : (x y : Bool) → ((if x then 10 else (if y then 32 else b)) == 64) ≡ false
    by-cases true y = refl
    by-cases false true = refl
    by-cases false false = grind (arith, nat_tests)

-- Where the code at hand ends.

abbrev Few : ℕ → ℕ → Type 0
Few n next = (n ≡ 1) ⊎ ((n ≡ 2) × (next ≡ 10))

len-few : (b : ℕ) (bs : List ℕ) → Few (line_ending_len b bs) (get_or bs 0 0)
len-few b [] = inl refl
len-few b (c ∷ cs) = by-test (b == 13 && c == 10) refl
  where
    by-test : (t : Bool) → (b == 13 && c == 10) ≡ t → Few (if t then 2 else 1) c
    by-test true e = inr (refl, eqb-true c 10 (and_parts (b == 13) (c == 10) e).1)
    by-test false e = inl refl

-- an `@` behind the code at hand stands behind its end
stop-before : (bytes : List ℕ) (p : Point) (i : ℕ) → p.index < i → get_or bytes i 0 ≡ 64 → (stop_at bytes p).index ≤ i
stop-before bytes p i lt e = by-ending (is_line_ending_byte b) ((b == tab_value) && nat_lt 0 (tab_left p))
  where
    b : ℕ
    b = get_or bytes p.index 0

    n : ℕ
    n = line_ending_len b (drop (p.index + 1) bytes)

    by-len : p.index + n ≤ i
    by-len =
        elim (len-few b (drop (p.index + 1) bytes)) [
          | inl one ↦ omega (arith, one, lt)
          | inr two ↦
              let feed : get_or bytes (p.index + 1 + 0) 0 ≡ 10 = sym (get_or-drop (p.index + 1) bytes 0 0) ∙ two.1 in
              elim (cases_eq i (p.index + 1)) [
                | inl same ↦ absurd (clash (sym (ap (λ j. get_or bytes j 0) (same ∙ omega arith)) ∙ e) feed)
                | inr other ↦ omega (arith, two.0, lt, other)
              ]
        ]
      where
        clash : {x : ℕ} → x ≡ 64 → x ≡ 10 → ⊥
        clash h k = omega (arith, h, k)

    by-ending : (x y : Bool) →
        (if x then line_start (p.line + 1) (p.index + n) else (if y then next_column p p.index (p.vs + 1) else next_column p (p.index + 1) 0)).index ≤ i
    by-ending true y = by-len
    by-ending false true = omega (arith, lt)
    by-ending false false = omega (arith, lt)

later-index : (a b c d : ℕ) → is_before (a, b) (c, d) ≡ true → a ≤ c
later-index a b c d h = grind (arith, nat_tests)

-- By the bytes.

pub sign-at : (bytes : List ℕ) (i : ℕ) (cs : List Code) (p q : Point) → IsStretch bytes p q → between bytes p q ≡ cs →
    p.index ≤ i → i < q.index → get_or bytes i 0 ≡ 64 → has_sign bytes p q ≡ true
sign-at bytes i [] p q s e low high sign =
    elim (stretch-cases bytes p q s) [
      | inl b ↦ absurd (cons≢nil (code_here bytes p) (between bytes (stop_at bytes p) q) (sym b.codes ∙ e))
      | inr d ↦ absurd (omega (arith, d.index, low, high))
    ]
sign-at bytes i (c ∷ cs) p q s e low high sign =
    elim (stretch-cases bytes p q s) [
      | inl b ↦
          sign-first bytes p q b
          ∙ elim (cases_eq i p.index) [
            | inl same ↦ or_left (value_at bytes p == 64) (has_sign bytes (stop_at bytes p) q) (value-sign bytes p (ap (λ j. get_or bytes j 0) (sym same) ∙ sign))
            | inr other ↦
                or_right (value_at bytes p == 64) (has_sign bytes (stop_at bytes p) q)
                (sign-at bytes i cs (stop_at bytes p) q b.stretch (tail_same (code_here bytes p) c (between bytes (stop_at bytes p) q) cs (sym b.codes ∙ e)) (stop-before bytes p i (omega (arith, low, other)) sign) high sign)
          ]
      | inr d ↦ absurd (omega (arith, d.index, low, high))
    ]

-- a place within a tab that another one is before has no `@`
tab-other : (bytes : List ℕ) (p q : Point) → IsPoint bytes q → is_before (place_of p) (place_of q) ≡ true →
    q.index ≤ p.index → get_or bytes p.index 0 ≢ 64
tab-other bytes p q h before le e =
    let inside = same-index p.index p.vs q.index q.vs before le in
    let tab : get_or bytes q.index 0 ≡ 9 = ((stands-point bytes q h).in_tab (omega (arith, inside.1))).1 in
    clash (get_or bytes q.index 0) (ap (λ j. get_or bytes j 0) (sym inside.0) ∙ e) tab
  where
    same-index : (a b c d : ℕ) → is_before (a, b) (c, d) ≡ true → c ≤ a → (a ≡ c) × (b < d)
    same-index a b c d k l = (grind (arith, nat_tests), grind (arith, nat_tests))

    clash : (x : ℕ) → x ≡ 64 → x ≡ 9 → ⊥
    clash x k l = omega (arith, k, l)

abbrev pub NoSign : List ℕ → ℕ → ℕ → Type 0
NoSign bytes from to = (i : ℕ) → from ≤ i → i < to → get_or bytes i 0 ≢ 64

pub sign-not : (bytes : List ℕ) (cs : List Code) (p q : Point) → IsStretch bytes p q → between bytes p q ≡ cs →
    NoSign bytes p.index q.index → has_sign bytes p q ≡ false
sign-not bytes [] p q s e none =
    elim (stretch-cases bytes p q s) [
      | inl b ↦ absurd (cons≢nil (code_here bytes p) (between bytes (stop_at bytes p) q) (sym b.codes ∙ e))
      | inr d ↦ sign-none bytes p q d
    ]
sign-not bytes (c ∷ cs) p q s e none =
    elim (stretch-cases bytes p q s) [
      | inl b ↦
          let more = sign-not bytes cs (stop_at bytes p) q b.stretch (tail_same (code_here bytes p) c (between bytes (stop_at bytes p) q) cs (sym b.codes ∙ e)) (λ i low high. none i (omega (arith, low, later-index p.index p.vs (stop_at bytes p).index (stop_at bytes p).vs b.later)) high) in
          sign-first bytes p q b ∙ ap (λ t. t || has_sign bytes (stop_at bytes p) q) (value-other (get_or bytes p.index 0) (nat_lt 0 p.vs) (here b)) ∙ more
      | inr d ↦ sign-none bytes p q d
    ]
  where
    here : IsBegun bytes p q → get_or bytes p.index 0 ≢ 64
    here b =
        elim (cases_lt p.index q.index) [
          | inl lt ↦ none p.index (omega arith) lt
          | inr le ↦ tab-other bytes p q s.to_place (before-reach (place_of p) (place_of (stop_at bytes p)) (place_of q) b.later (backward bytes (stop_at bytes p) q b.stretch)) le
        ]

-- In a slice of the bytes.

pub in-slice : (bytes : List ℕ) (a b k : ℕ) → b ≤ length bytes → a + k < b →
    get_or (slice_range bytes a b) k 0 ≡ get_or bytes (a + k) 0
in-slice bytes a b k within lt = get_or-take (b - a) (drop a bytes) k 0 (omega (arith, lt)) ∙ get_or-drop a bytes k 0

pub slice-length : (bytes : List ℕ) (a b : ℕ) → a ≤ b → b ≤ length bytes → length (slice_range bytes a b) ≡ b - a
slice-length bytes a b order within =
    let left : length (drop a bytes) ≡ length bytes - a = length-drop a bytes in
    length-take-le (b - a) (drop a bytes) (omega (arith, left, order, within))

not-sign : (x : ℕ) → (x == 64) ≡ false → x ≢ 64
not-sign x h e = both_ways (x == 64) h (eq-eqb x 64 e)

pub record IsInside (bytes : List ℕ) (p q : Point) : Type 0 where
  pub order : p.index ≤ q.index
  pub within : q.index ≤ length bytes

pub inside : (bytes : List ℕ) (p q : Point) → IsStretch bytes p q → IsInside bytes p q
inside bytes p q s = record { order = not-later p.index p.vs q.index q.vs (backward bytes p q s); within = (stands-point bytes q s.to_place).in_bytes }
  where
    not-later : (a b c d : ℕ) → is_before (c, d) (a, b) ≡ false → a ≤ c
    not-later a b c d h = grind (arith, nat_tests)

-- whether one of these bytes is an `@`
pub sign-in : (bytes : List ℕ) (p q : Point) → IsStretch bytes p q → (r : Bool) →
    IsAnyAnswer (λ y b. (y == 64) ≡ b) (slice_range bytes p.index q.index) r → r ≡ has_sign bytes p q
sign-in bytes p q s true k =
    let w : IsInside bytes p q = inside bytes p q s in
    let len = slice-length bytes p.index q.index w.order w.within in
    let high : p.index + k.0 < q.index = omega (arith, k.1, len) in
    sym (sign-at bytes (p.index + k.0) (between bytes p q) p q s refl (omega arith) high (sym (in-slice bytes p.index q.index k.0 w.within high) ∙ eqb-true _ 64 (k.2 0)))
sign-in bytes p q s false all =
    let w : IsInside bytes p q = inside bytes p q s in
    let len = slice-length bytes p.index q.index w.order w.within in
    sym (sign-not bytes (between bytes p q) p q s refl (λ i low high e.
    let at : p.index + (i - p.index) ≡ i = omega (arith, low) in
    let here = in-slice bytes p.index q.index (i - p.index) w.within (omega (arith, low, high)) ∙ ap (λ j. get_or bytes j 0) at in
    not-sign _ (all (i - p.index) 0 (omega arith) (omega (arith, len, low, high))) (here ∙ e)))
