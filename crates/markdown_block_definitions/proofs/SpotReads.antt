-- Codes of a document from place to place in a line, and lines from their start.
use Rattle.std.proofs.Common.{◌≡◌, ℕ, zero, suc, ◌+◌, ◌-◌, ◌*◌, ◌%◌, ◌≤◌, ◌<◌, refl, ap, ◌∙◌, sym, subst, List, [], ◌∷◌, length, drop, get_or, Bool, true, false, ◌&&◌, nat_lt, ◌==◌, arith, if◌then◌else◌}
use Rattle.std.proofs.lemmas.Bool.Decides.{nat_tests}
use Rattle.markdown_event.specs.declared.event.Point.{Point}
use Rattle.markdown_content.specs.Codes.{place_of, document_start, line_start, is_line_ending_byte, line_ending_len}
use Rattle.markdown_content.specs.DocumentWalk.{IsPoint, codes_after}
use Rattle.markdown_content.proofs.DocumentCodes.{value_at, stop_at, code_here, tab_left}
use Rattle.markdown_content.proofs.DocumentWalkLemmas.{value-ending, stop-ending, value-plain, stop-plain, value-tab, stop-last, stop-more}
use Rattle.markdown_content.proofs.DocumentPlaces.{next, IsNextPlace, stands-point, point_start, vs-small}
use Rattle.markdown_block_line.proofs.RestValues.{by_bool}
use Rattle.markdown_block_definitions.specs.TextCopies.{IsSpot, IsRead, EndsLine, point_of, line_spot, past_tab}
use Rattle.markdown_block_definitions.specs.declared.copy.Spot.{Spot}

-- One code.

read-by : (bytes : List ℕ) (s t : Spot) (l c v : ℕ) (h : IsSpot bytes s) → s.index < length bytes → v ≡ value_at bytes (point_of s h.line h.column) → point_of t l c ≡ stop_at bytes (point_of s h.line h.column) → (c - 1) % 4 ≡ t.phase → IsRead bytes s v t
read-by bytes s t l c v h lt e f g =
    let p : Point = point_of s h.line h.column in
    let one : IsNextPlace bytes p = next bytes p h.is_point lt in
    record {
      code = code_here bytes p;
      codes = one.codes ∙ ap (λ (x : Point). code_here bytes p ∷ codes_after bytes (place_of x)) (sym f);
      values = sym e;
      starts = refl;
      stands = record { line = l; column = c; is_point = subst (λ (x : Point). IsPoint bytes x) (sym f) one.point; phase = g };
      later = subst (λ (x : Point). 4 * s.index + s.vs + 1 ≤ 4 * x.index + x.vs) (sym f) one.counts;
    }

module _ (bytes : List ℕ) (s : Spot) (h : IsSpot bytes s) (lt : s.index < length bytes) where
  from-one : 1 ≤ h.column
  from-one = (stands-point bytes (point_of s h.line h.column) h.is_point).from_one

  pub read-ending : (n : ℕ) → is_line_ending_byte (get_or bytes s.index 0) ≡ true → n ≡ line_ending_len (get_or bytes s.index 0) (drop (s.index + 1) bytes) → IsRead bytes s 10 (line_spot (s.index + n))
  read-ending n e f =
      let p : Point = point_of s h.line h.column in
      read-by bytes s (line_spot (s.index + n)) (h.line + 1) 1 10 h lt (value-ending bytes p e) (ap (λ m. line_start (h.line + 1) (s.index + m)) f ∙ stop-ending bytes p e) refl

  phase-next : (h.column + 1 - 1) % 4 ≡ (s.phase + 1) % 4
  phase-next = omega (arith, h.phase, from-one)

  pub read-plain : is_line_ending_byte (get_or bytes s.index 0) ≡ false → (get_or bytes s.index 0 ≡ 9 → ⊥) → IsRead bytes s (get_or bytes s.index 0) (record { index = s.index + 1; vs = 0; phase = (s.phase + 1) % 4 })
  read-plain e f =
      let p : Point = point_of s h.line h.column in
      let g : (get_or bytes s.index 0 == 9) ≡ false = other (get_or bytes s.index 0) f in
      read-by bytes s (record { index = s.index + 1; vs = 0; phase = (s.phase + 1) % 4 }) h.line (h.column + 1) (get_or bytes s.index 0) h lt (value-plain bytes p e g) (stop-plain bytes p e g) phase-next
    where
      other : (b : ℕ) → (b ≡ 9 → ⊥) → (b == 9) ≡ false
      other b f = grind (arith, nat_tests, f)

  pub read-tab : (v : ℕ) → get_or bytes s.index 0 ≡ 9 → v ≡ (if nat_lt 0 s.vs then 32 else 9) → IsRead bytes s v (past_tab s)
  read-tab v e f = by_bool (nat_lt s.phase 3) inner last
    where
      p : Point
      p = point_of s h.line h.column

      no-end : is_line_ending_byte (get_or bytes s.index 0) ≡ false
      no-end = ap is_line_ending_byte e

      is-tab : (get_or bytes s.index 0 == 9) ≡ true
      is-tab = ap (λ b. b == 9) e

      left-more : (c ph : ℕ) → (c - 1) % 4 ≡ ph → ph < 3 → nat_lt 0 (4 - (c - 1) % 4 - 1) ≡ true
      left-more c ph i k = let x : 0 < 4 - (c - 1) % 4 - 1 = omega (arith, i, k) in grind (arith, nat_tests, x)

      left-none : (c ph : ℕ) → (c - 1) % 4 ≡ ph → 3 ≤ ph → nat_lt 0 (4 - (c - 1) % 4 - 1) ≡ false
      left-none c ph i k = let x : 4 - (c - 1) % 4 - 1 ≤ 0 = omega (arith, i, k) in grind (arith, nat_tests, x)

      phase-more : (c ph : ℕ) → 1 ≤ c → (c - 1) % 4 ≡ ph → ph < 3 → (c + 1 - 1) % 4 ≡ ph + 1
      phase-more c ph o i k = omega (arith, o, i, k)

      phase-last : (c ph : ℕ) → 1 ≤ c → (c - 1) % 4 ≡ ph → 3 ≤ ph → (c + 1 - 1) % 4 ≡ 0
      phase-last c ph o i k = omega (arith, o, i, k)

      inner : nat_lt s.phase 3 ≡ true → IsRead bytes s v (past_tab s)
      inner g =
          let k : s.phase < 3 = grind (arith, nat_tests, g) in
          let more : nat_lt 0 (tab_left p) ≡ true = left-more h.column s.phase h.phase k in
          let q : Spot = record { index = s.index; vs = s.vs + 1; phase = s.phase + 1 } in
          let x : q ≡ past_tab s = ap (λ b. if b then q else record { index = s.index + 1; vs = 0; phase = 0 }) (sym g) in
          subst (λ (t : Spot). IsRead bytes s v t) x (read-by bytes s q h.line (h.column + 1) v h lt (f ∙ value-tab bytes p no-end is-tab) (stop-more bytes p no-end is-tab more) (phase-more h.column s.phase from-one h.phase k))

      last : nat_lt s.phase 3 ≡ false → IsRead bytes s v (past_tab s)
      last g =
          let k : 3 ≤ s.phase = grind (arith, nat_tests, g) in
          let none : nat_lt 0 (tab_left p) ≡ false = left-none h.column s.phase h.phase k in
          let q : Spot = line_spot (s.index + 1) in
          let x : q ≡ past_tab s = ap (λ b. if b then record { index = s.index; vs = s.vs + 1; phase = s.phase + 1 } else q) (sym g) in
          subst (λ (t : Spot). IsRead bytes s v t) x (read-by bytes s q h.line (h.column + 1) v h lt (f ∙ value-tab bytes p no-end is-tab) (stop-last bytes p no-end none) (phase-last h.column s.phase from-one h.phase k))

-- numbers of a spot
pub spot-small : (bytes : List ℕ) (s : Spot) → IsSpot bytes s → (s.vs ≤ 3) × (s.phase < 4)
spot-small bytes s h = (vs-small bytes (point_of s h.line h.column) (stands-point bytes (point_of s h.line h.column) h.is_point), omega (arith, h.phase))

-- Lines.

pub spot-first : (bytes : List ℕ) (i : ℕ) → i ≤ 0 → IsSpot bytes (line_spot i)
spot-first bytes zero e = record { line = 1; column = 1; is_point = point_start bytes; phase = refl }
spot-first bytes (suc i) e = absurd (omega (arith, e))

pub len-most : (b : ℕ) (bs : List ℕ) → line_ending_len b bs ≤ 2
len-most b [] = omega arith
len-most b (c ∷ cs) = most (b == 13 && c == 10)
  where
    most : (t : Bool) → (if t then 2 else 1) ≤ 2
    most true = omega arith
    most false = omega arith

stop-near : (bytes : List ℕ) (p : Point) → is_line_ending_byte (get_or bytes p.index 0) ≡ false → (stop_at bytes p).index ≤ p.index + 1
stop-near bytes p e = by_bool (get_or bytes p.index 0 == 9 && nat_lt 0 (tab_left p))
    (λ (g : (get_or bytes p.index 0 == 9 && nat_lt 0 (tab_left p)) ≡ true). rw (e, g) (omega arith))
    (λ (g : (get_or bytes p.index 0 == 9 && nat_lt 0 (tab_left p)) ≡ false). rw (e, g) (omega arith))

-- one step of a walk to the start of a line
walk-step : (bytes : List ℕ) (p : Point) (i : ℕ) → IsPoint bytes p → p.index < i → i ≤ length bytes → EndsLine bytes i
    → ((q : Point) → IsPoint bytes q → q.index < i → 4 * p.index + p.vs + 1 ≤ 4 * q.index + q.vs → IsSpot bytes (line_spot i)) → IsSpot bytes (line_spot i)
walk-step bytes p i h lt le ends more = by_bool (is_line_ending_byte (get_or bytes p.index 0)) ending other
  where
    one : IsNextPlace bytes p
    one = next bytes p h (omega (arith, lt, le))

    go : (k : ℕ) → (stop_at bytes p).index ≡ k → k < i → IsSpot bytes (line_spot i)
    go k e l = more (stop_at bytes p) one.point (omega (arith, e, l)) one.counts

    there : (l : ℕ) → line_start l i ≡ stop_at bytes p → IsSpot bytes (line_spot i)
    there l e = record { line = l; column = 1; is_point = subst (λ (x : Point). IsPoint bytes x) (sym e) one.point; phase = refl }

    n : ℕ
    n = line_ending_len (get_or bytes p.index 0) (drop (p.index + 1) bytes)

    past : i < p.index + n → ⊥
    past l =
        let j : i - 1 ≡ p.index = omega (arith, l, lt, len-most (get_or bytes p.index 0) (drop (p.index + 1) bytes)) in
        let m : n ≡ 1 = ap (λ k. line_ending_len (get_or bytes k 0) (drop (k + 1) bytes)) (sym j) ∙ ends.whole in
        omega (arith, l, lt, m)

    ending : is_line_ending_byte (get_or bytes p.index 0) ≡ true → IsSpot bytes (line_spot i)
    ending e =
        let stop : line_start (p.line + 1) (p.index + n) ≡ stop_at bytes p = stop-ending bytes p e in
        by_bool (nat_lt (p.index + n) i)
        (λ (f : nat_lt (p.index + n) i ≡ true). go (p.index + n) (ap (λ (x : Point). x.index) (sym stop)) (grind (arith, nat_tests, f)))
        (λ (f : nat_lt (p.index + n) i ≡ false).
        let g : i ≤ p.index + n = grind (arith, nat_tests, f) in
        let k : p.index + n ≤ i = by_bool (nat_lt i (p.index + n)) (λ (x : nat_lt i (p.index + n) ≡ true). absurd (past (grind (arith, nat_tests, x)))) (λ (x : nat_lt i (p.index + n) ≡ false). grind (arith, nat_tests, x)) in
        let m : i ≡ p.index + n = omega (arith, g, k) in
        there (p.line + 1) (ap (λ x. line_start (p.line + 1) x) m ∙ stop))

    apart : (a b : ℕ) → (a == b) ≡ false → (a ≡ b) → ⊥
    apart a b f e = grind (arith, nat_tests, f, e)

    other : is_line_ending_byte (get_or bytes p.index 0) ≡ false → IsSpot bytes (line_spot i)
    other e = by_bool (i == p.index + 1)
        (λ (f : (i == p.index + 1) ≡ true).
        let m : i - 1 ≡ p.index = grind (arith, nat_tests, f) in
        let x : is_line_ending_byte (get_or bytes p.index 0) ≡ true = ap (λ k. is_line_ending_byte (get_or bytes k 0)) (sym m) ∙ ends.byte in
        absurd (grind (arith, e, x)))
        (λ (f : (i == p.index + 1) ≡ false).
        let g : (i ≡ p.index + 1) → ⊥ = apart i (p.index + 1) f in
        go (stop_at bytes p).index refl (omega (arith, lt, g, stop-near bytes p e)))

walk-to : (n : ℕ) (bytes : List ℕ) (p : Point) (i : ℕ) → IsPoint bytes p → p.index < i → i ≤ length bytes → EndsLine bytes i → 4 * i < n + (4 * p.index + p.vs) → IsSpot bytes (line_spot i)
walk-to zero bytes p i h lt le ends few = absurd (omega (arith, lt, few, vs-small bytes p (stands-point bytes p h)))
walk-to (suc n) bytes p i h lt le ends few = walk-step bytes p i h lt le ends (λ q g l counts. walk-to n bytes q i g l le ends (omega (arith, few, counts)))

pub spot-line : (bytes : List ℕ) (i : ℕ) → 0 < i → i ≤ length bytes → EndsLine bytes i → IsSpot bytes (line_spot i)
spot-line bytes i lt le ends = walk-to (4 * i + 1) bytes document_start i (point_start bytes) lt le ends (omega arith)

-- the value of a column of a tab
pub tab-later : (vs : ℕ) → 0 < vs → ◌≡◌ {A = ℕ} 32 (if nat_lt 0 vs then 32 else 9)
tab-later vs h = let x : nat_lt 0 vs ≡ true = grind (arith, nat_tests, h) in ap (λ b. if b then 32 else 9) (sym x)

pub tab-first : (vs : ℕ) → vs ≤ 0 → ◌≡◌ {A = ℕ} 9 (if nat_lt 0 vs then 32 else 9)
tab-first vs h = let x : nat_lt 0 vs ≡ false = grind (arith, nat_tests, h) in ap (λ b. if b then 32 else 9) (sym x)
