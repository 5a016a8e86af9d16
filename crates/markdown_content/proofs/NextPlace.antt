-- The place after a code, by the byte there.
use Rattle.std.proofs.Common.{ℕ, ◌+◌, ◌-◌, ◌%◌, ◌<◌, ◌≤◌, ◌^◌, true, false, nat_lt, ◌≡◌, arith, List, [], ◌∷◌, length, drop, get_or, refl, sym, ap, subst, ◌∙◌, ◌⊎◌, inl, inr, Some, slice_get, if◌then◌else◌}
use Rattle.std.specs.Option.{option_map}
use Rattle.std.proofs.lemmas.Bool.{eq-eqb, ne_eqb, lt-ltb, le-ltb, cases_eq, cases_lt, cases_Bool}
use Rattle.std.proofs.lemmas.Bool.Decides.{nat_tests}
use Rattle.markdown_event.specs.declared.event.Point.{Point}
use Rattle.markdown_content.specs.Codes.{Code, space_value, line_start, next_column, tab_value, is_line_ending_byte, line_ending_len}
use Rattle.markdown_content.specs.Content.{document_limit}
use Rattle.markdown_content.specs.DocumentWalk.{IsPoint, next_point, value_from}
use Rattle.markdown_content.proofs.DocumentCodes.{HasPlaceNumbers, tab_left, value_at}
use Rattle.markdown_content.proofs.DocumentWalkLemmas.{few-end, value-ending, value-plain, value-tab, stop-ending, stop-plain, stop-last, stop-more}
use Rattle.markdown_content.proofs.DocumentPlaces.{stands-point, next, IsNextPlace}

-- the numbers of a place fit a `usize`, those of the next one too
pub record Fits_point (p : Point) : Type 0 where
  pub line : p.line < 2 ^ 62
  pub column : p.column < 2 ^ 63
  pub index : p.index < 2 ^ 61
  pub vs : p.vs < 4
  pub from_one : 1 ≤ p.column

column_fits : (bytes : List ℕ) (p : Point) → HasPlaceNumbers bytes p → length bytes ≤ document_limit → p.vs ≤ 3 →
    p.column < 2 ^ 63
column_fits bytes p s fits small = omega (arith, s.columns, few-end bytes p s)

pub point_fits : (bytes : List ℕ) (p : Point) → IsPoint bytes p → length bytes ≤ document_limit → Fits_point p
point_fits bytes p h fits =
    let s : HasPlaceNumbers bytes p = stands-point bytes p h in
    let small : p.vs ≤ 3 = omega (arith, s.inside) in
    record {
      line = omega (arith, s.lines, s.in_bytes);
      column = column_fits bytes p s fits small;
      index = omega (arith, s.in_bytes);
      vs = omega arith;
      from_one = s.from_one;
    }

pub next_ending : (bytes : List ℕ) (p : Point) → IsPoint bytes p → p.index < length bytes →
    is_line_ending_byte (get_or bytes p.index 0) ≡ true →
    line_start (p.line + 1) (p.index + line_ending_len (get_or bytes p.index 0) (drop (p.index + 1) bytes)) ≡ next_point bytes p
next_ending bytes p h lt k = stop-ending bytes p k ∙ sym (next bytes p h lt).next

left-some : (c : ℕ) → 1 ≤ c → (c % 4 ≡ 0 → ⊥) → 0 < 4 - (c - 1) % 4 - 1
left-some c one h = omega arith

left-none : (c : ℕ) → 1 ≤ c → c % 4 ≡ 0 → 4 - (c - 1) % 4 - 1 ≤ 0
left-none c one h = omega arith

pub next_inside : (bytes : List ℕ) (p : Point) → IsPoint bytes p → p.index < length bytes →
    get_or bytes p.index 0 ≡ tab_value → (p.column % 4 ≡ 0 → ⊥) → next_column p p.index (p.vs + 1) ≡ next_point bytes p
next_inside bytes p h lt tab more =
    let one : 1 ≤ p.column = (stands-point bytes p h).from_one in
    let plain : is_line_ending_byte (get_or bytes p.index 0) ≡ false = rw tab refl in
    stop-more bytes p plain (eq-eqb (get_or bytes p.index 0) tab_value tab) (lt-ltb 0 (tab_left p) (left-some p.column one more)) ∙ sym (next bytes p h lt).next

pub next_byte : (bytes : List ℕ) (p : Point) → IsPoint bytes p → p.index < length bytes →
    is_line_ending_byte (get_or bytes p.index 0) ≡ false → (get_or bytes p.index 0 ≡ tab_value → p.column % 4 ≡ 0) →
    next_column p (p.index + 1) 0 ≡ next_point bytes p
next_byte bytes p h lt plain last =
    let one : 1 ≤ p.column = (stands-point bytes p h).from_one in
    elim (cases_eq (get_or bytes p.index 0) tab_value) [
      | inl e ↦ stop-last bytes p plain (le-ltb 0 (tab_left p) (left-none p.column one (last e))) ∙ sym (next bytes p h lt).next
      | inr e ↦ stop-plain bytes p plain (ne_eqb (get_or bytes p.index 0) tab_value e) ∙ sym (next bytes p h lt).next
    ]

pub ending_byte : (b : ℕ) → (b ≡ 10) ⊎ ((b ≡ 10 → ⊥) × (b ≡ 13)) → is_line_ending_byte b ≡ true
ending_byte b h = grind (arith, nat_tests)

pub other_byte : (b : ℕ) → (b ≡ 10 → ⊥) → (b ≡ 13 → ⊥) → is_line_ending_byte b ≡ false
other_byte b h k = grind (arith, nat_tests)

-- the value of a code, by the byte there
pub value-is : (bytes : List ℕ) (p : Point) → IsPoint bytes p → p.index < length bytes →
    value_from bytes p ≡ Some (value_at bytes p)
unfolding value_from
value-is bytes p h lt =
    ap (λ (cs : List Code). option_map (λ (c : Code). c.value) (slice_get cs 0)) (next bytes p h lt).codes

pub value_ending : (bytes : List ℕ) (p : Point) → IsPoint bytes p → p.index < length bytes →
    is_line_ending_byte (get_or bytes p.index 0) ≡ true → value_from bytes p ≡ Some 10
value_ending bytes p h lt k = value-is bytes p h lt ∙ ap (λ (v : ℕ). Some v) (sym (value-ending bytes p k))

pub value_space : (bytes : List ℕ) (p : Point) → IsPoint bytes p → p.index < length bytes →
    get_or bytes p.index 0 ≡ tab_value → 0 < p.vs → value_from bytes p ≡ Some 32
value_space bytes p h lt tab inside = grind (arith, lt-ltb, value-is, value-tab, eq-eqb)

pub value_byte : (bytes : List ℕ) (p : Point) → IsPoint bytes p → p.index < length bytes →
    is_line_ending_byte (get_or bytes p.index 0) ≡ false → (get_or bytes p.index 0 ≡ tab_value → p.vs ≤ 0) →
    value_from bytes p ≡ Some (get_or bytes p.index 0)
value_byte bytes p h lt plain first = grind (arith, cases_eq, le-ltb, value-is, value-tab, eq-eqb, value-plain, ne_eqb)

-- the next place is one of the document
pub next_is_point : (bytes : List ℕ) (p q : Point) → IsPoint bytes p → p.index < length bytes → q ≡ next_point bytes p →
    IsPoint bytes q
next_is_point bytes p q h lt e =
    let one : IsNextPlace bytes p = next bytes p h lt in
    subst (λ (x : Point). IsPoint bytes x) (sym (e ∙ one.next)) one.point

-- the value of a code, where it is right for a byte of a line ending, for a later column of a tab, and for any other byte
pub value_control : (bytes : List ℕ) (p : Point) (v : ℕ) → IsPoint bytes p → p.index < length bytes →
    (is_line_ending_byte (get_or bytes p.index 0) ≡ true → v ≡ 10) →
    (get_or bytes p.index 0 ≡ tab_value → 0 < p.vs → v ≡ 32) →
    (is_line_ending_byte (get_or bytes p.index 0) ≡ false → (get_or bytes p.index 0 ≡ tab_value → p.vs ≤ 0) → v ≡ get_or bytes p.index 0) →
    value_from bytes p ≡ Some v
value_control bytes p v h lt ending space same = grind (arith, cases_Bool, value_ending, cases_eq, cases_lt, value_space, value_byte)

-- past a byte above 13
pub byte_on : (bytes : List ℕ) (p : Point) → IsPoint bytes p → p.index < length bytes → 13 < get_or bytes p.index 0 → IsPoint bytes (next_column p (p.index + 1) 0)
byte_on bytes p h lt k =
    next_is_point bytes p _ h lt (next_byte bytes p h lt (other_byte (get_or bytes p.index 0) (λ e. omega (arith, e, k)) (λ e. omega (arith, e, k))) (λ e. absurd (omega (arith, e, k))))

feed-len : (b : ℕ) (rest : List ℕ) → b ≡ 10 → line_ending_len b rest ≡ 1
feed-len b [] e = refl
feed-len b (c ∷ rest) e = rw e refl

-- past a line feed
pub feed_on : (bytes : List ℕ) (p : Point) → IsPoint bytes p → p.index < length bytes → get_or bytes p.index 0 ≡ 10 → IsPoint bytes (line_start (p.line + 1) (p.index + 1))
feed_on bytes p h lt e =
    next_is_point bytes p _ h lt
    (ap (λ (n : ℕ). line_start (p.line + 1) (p.index + n)) (sym (feed-len (get_or bytes p.index 0) (drop (p.index + 1) bytes) e)) ∙ next_ending bytes p h lt (ending_byte (get_or bytes p.index 0) (inl e)))
