-- The codes from one place of a document to another, one after another.
use Rattle.std.proofs.Common.{ℕ, ◌+◌, ◌-◌, ◌*◌, ◌%◌, ◌<◌, ◌≤◌, Bool, true, false, cond, ◌&&◌, nat_lt, ◌==◌, ◌≡◌, arith, List, [], ◌∷◌, drop, get_or, filter, refl, sym, ap, subst, ◌∙◌, ◌⊎◌, inl, inr}
use Rattle.std.proofs.lemmas.List.Sums.{sum_by-cons}
use Rattle.std.proofs.lemmas.Bool.{cases_Bool, cases_lt, eq-eqb, ltb-true, and_parts}
use Rattle.std.proofs.lemmas.Bool.Decides.{nat_tests}
use Rattle.markdown_event.specs.declared.event.Point.{Point}
use Rattle.markdown_content.specs.Codes.{Code, tab_value, is_line_ending_byte, line_ending_len, line_start, next_column, place_of, is_code_before}
use Rattle.markdown_content.specs.DocumentWalk.{codes_after, IsPoint}
use Rattle.markdown_content.specs.Slices.{is_virtual_space, virtual_spaces}
use Rattle.markdown_content.proofs.PlaceOrder.{is_before, same_place}
use Rattle.markdown_content.proofs.AdjacentCodes.{head_same, tail_same, cons≢nil}
use Rattle.markdown_content.proofs.DocumentCodes.{len-bounds, tab_left, stop_at, code_here, HasPlaceNumbers}
use Rattle.markdown_content.proofs.DocumentWalkLemmas.{stop-ending, stop-more}
use Rattle.markdown_content.proofs.DocumentPlaces.{stands-point, toward, IsToward, there-point}
use Rattle.markdown_content.proofs.ContentCodes.{none-before, passes}

-- How far one code reaches.

pub record IsInTab (p q : Point) : Type 0 where
  pub index : q.index ≡ p.index
  pub vs : q.vs ≡ p.vs + 1
  pub column : q.column ≡ p.column + 1
  pub more : 0 < tab_left p

pub record IsPastByte (p q : Point) : Type 0 where
  pub index : p.index < q.index
  pub vs : q.vs ≡ 0
  pub last : 0 < p.vs → tab_left p ≡ 0

ending-not_nine : (b : ℕ) → b ≡ tab_value → is_line_ending_byte b ≡ true → ⊥
ending-not_nine b e h = grind (arith, nat_tests)

shape-ending : (bytes : List ℕ) (p : Point) → HasPlaceNumbers bytes p → is_line_ending_byte (get_or bytes p.index 0) ≡ true →
    IsPastByte p (stop_at bytes p)
shape-ending bytes p s h = grind (arith, len-bounds, ending-not_nine, stop-ending)

last-column : (t : Bool) (n : ℕ) → t ≡ true → (t && nat_lt 0 n) ≡ false → n ≡ 0
last-column t n h k = grind (arith, nat_tests)

shape-plain : (bytes : List ℕ) (p : Point) → HasPlaceNumbers bytes p → is_line_ending_byte (get_or bytes p.index 0) ≡ false →
    (get_or bytes p.index 0 == tab_value && nat_lt 0 (tab_left p)) ≡ false → IsPastByte p (stop_at bytes p)
shape-plain bytes p s h k = grind (arith, last-column, eq-eqb)

shape-tab : (bytes : List ℕ) (p : Point) → is_line_ending_byte (get_or bytes p.index 0) ≡ false →
    (get_or bytes p.index 0 == tab_value && nat_lt 0 (tab_left p)) ≡ true → IsInTab p (stop_at bytes p)
shape-tab bytes p h k = grind (arith, and_parts, ltb-true, stop-more)

pub shape : (bytes : List ℕ) (p : Point) → HasPlaceNumbers bytes p → IsInTab p (stop_at bytes p) ⊎ IsPastByte p (stop_at bytes p)
shape bytes p s = grind (arith, cases_Bool, shape-ending, shape-tab, shape-plain)

-- the codes from p to q
abbrev pub codes_to : List ℕ → Point → Point → List Code
codes_to bytes p q = filter (is_code_before (place_of q)) (codes_after bytes (place_of p))

-- one code on the way to q
pub record IsFirstTo (bytes : List ℕ) (p q : Point) : Type 0 where
  pub codes : codes_to bytes p q ≡ code_here bytes p ∷ codes_to bytes (stop_at bytes p) q
  pub point : IsPoint bytes (stop_at bytes p)
  pub reached : is_before (place_of q) (place_of (stop_at bytes p)) ≡ false
  pub counts : 4 * p.index + p.vs + 1 ≤ 4 * (stop_at bytes p).index + (stop_at bytes p).vs

pub record IsArrived (bytes : List ℕ) (p q : Point) : Type 0 where
  pub none : codes_to bytes p q ≡ []
  pub index : p.index ≡ q.index
  pub vs : p.vs ≡ q.vs

pub first-to : (bytes : List ℕ) (p q : Point) → IsPoint bytes p → IsPoint bytes q →
    is_before (place_of p) (place_of q) ≡ true → IsFirstTo bytes p q
first-to bytes p q h k before =
    let t : IsToward bytes p (place_of q) = toward bytes p (place_of q) h (there-point bytes q k) before in
    record {
      codes = passes (is_code_before (place_of q)) (code_here bytes p) (codes_after bytes (place_of (stop_at bytes p))) (codes_after bytes (place_of p)) before t.next.codes;
      point = t.next.point;
      reached = t.reached;
      counts = t.next.counts;
    }

arrived : (bytes : List ℕ) (p q : Point) → IsPoint bytes p → is_before (place_of q) (place_of p) ≡ false →
    is_before (place_of p) (place_of q) ≡ false → IsArrived bytes p q
arrived bytes p q h k l = grind (arith, same_place, none-before)

pub to-cases : (bytes : List ℕ) (p q : Point) → IsPoint bytes p → IsPoint bytes q →
    is_before (place_of q) (place_of p) ≡ false → IsFirstTo bytes p q ⊎ IsArrived bytes p q
to-cases bytes p q h k l = grind (arith, cases_Bool, first-to, arrived)

-- Virtual spaces among them.

count-yes : (i : ℕ) (c : Code) (cs : List Code) → is_virtual_space i c ≡ true →
    virtual_spaces i (c ∷ cs) ≡ 1 + virtual_spaces i cs
count-yes i c cs h =
    sum_by-cons (λ (x : Code). cond (is_virtual_space i x) 1 0) c cs ∙ ap (λ (t : Bool). cond t 1 0 + virtual_spaces i cs) h

count-no : (i : ℕ) (c : Code) (cs : List Code) → is_virtual_space i c ≡ false →
    virtual_spaces i (c ∷ cs) ≡ virtual_spaces i cs
count-no i c cs h =
    let e : virtual_spaces i (c ∷ cs) ≡ 0 + virtual_spaces i cs = sum_by-cons (λ (x : Code). cond (is_virtual_space i x) 1 0) c cs ∙ ap (λ (t : Bool). cond t 1 0 + virtual_spaces i cs) h in omega arith

is-space : (i index vs : ℕ) → index ≡ i → 0 < vs → (index == i && nat_lt 0 vs) ≡ true
is-space i index vs e h = grind (arith, nat_tests)

not-space_index : (i index vs : ℕ) → (index ≡ i → ⊥) → (index == i && nat_lt 0 vs) ≡ false
not-space_index i index vs e = grind (arith, nat_tests)

later-index : (a b c d : ℕ) → is_before (c, d) (a, b) ≡ false → a ≤ c
later-index a b c d h = grind (arith, nat_tests)

-- none of an earlier tab
none-earlier : (bytes : List ℕ) (i : ℕ) (p q : Point) (cs : List Code) → codes_to bytes p q ≡ cs → IsPoint bytes p →
    IsPoint bytes q → is_before (place_of q) (place_of p) ≡ false → i < p.index → virtual_spaces i cs ≡ 0
none-earlier bytes i p q [] e h k l lt = refl
none-earlier bytes i p q (c ∷ cs) e h k l lt =
    elim (to-cases bytes p q h k l) [
      | inl f ↦
          let same : c ≡ code_here bytes p = head_same c (code_here bytes p) cs (codes_to bytes (stop_at bytes p) q) (sym e ∙ f.codes) in
          let rest : codes_to bytes (stop_at bytes p) q ≡ cs = sym (tail_same c (code_here bytes p) cs (codes_to bytes (stop_at bytes p) q) (sym e ∙ f.codes)) in
          let other : is_virtual_space i c ≡ false = ap (λ (x : Code). is_virtual_space i x) same ∙ not-space_index i p.index p.vs (λ eq. omega (arith, eq)) in
          let further : i < (stop_at bytes p).index =
          elim (shape bytes p (stands-point bytes p h)) [ inl t ↦ omega (arith, t.index) | inr t ↦ omega (arith, t.index) ] in
          count-no i c cs other ∙ none-earlier bytes i (stop_at bytes p) q cs rest f.point k f.reached further
      | inr a ↦ absurd (cons≢nil c cs (sym e ∙ a.none))
    ]

no-count : (i v w : ℕ) → v ≡ w → virtual_spaces i [] + v ≡ w
no-count i v w h = omega arith

add-count : (n m v w z : ℕ) → n ≡ 1 + m → w ≡ v + 1 → m + w ≡ z → n + v ≡ z
add-count n m v w z e f g = omega arith

left-column : (c d : ℕ) → 1 ≤ c → d ≡ c + 1 → 0 < 4 - (c - 1) % 4 - 1 →
    1 + (4 - (d - 1) % 4 - 1 + 1) ≡ 4 - (c - 1) % 4 - 1 + 1
left-column c d one e h = omega arith

-- between two places inside one tab, all codes are
pub spaces-inside : (bytes : List ℕ) (p q : Point) (cs : List Code) → codes_to bytes p q ≡ cs → IsPoint bytes p →
    IsPoint bytes q → is_before (place_of q) (place_of p) ≡ false → p.index ≡ q.index → 0 < p.vs →
    virtual_spaces q.index cs + p.vs ≡ q.vs
spaces-inside bytes p q [] e h k l same in_tab =
    elim (to-cases bytes p q h k l) [
      | inl f ↦ absurd (cons≢nil (code_here bytes p) (codes_to bytes (stop_at bytes p) q) (sym f.codes ∙ e))
      | inr a ↦ no-count q.index p.vs q.vs a.vs
    ]
spaces-inside bytes p q (c ∷ cs) e h k l same in_tab =
    elim (to-cases bytes p q h k l) [
      | inl f ↦
          let is : c ≡ code_here bytes p = head_same c (code_here bytes p) cs (codes_to bytes (stop_at bytes p) q) (sym e ∙ f.codes) in
          let rest : codes_to bytes (stop_at bytes p) q ≡ cs = sym (tail_same c (code_here bytes p) cs (codes_to bytes (stop_at bytes p) q) (sym e ∙ f.codes)) in
          let counts : is_virtual_space q.index c ≡ true = ap (λ (x : Code). is_virtual_space q.index x) is ∙ is-space q.index p.index p.vs same in_tab in
          elim (shape bytes p (stands-point bytes p h)) [
            | inl t ↦
                let more : virtual_spaces q.index cs + (stop_at bytes p).vs ≡ q.vs = spaces-inside bytes (stop_at bytes p) q cs rest f.point k f.reached (t.index ∙ same) (omega (arith, t.vs)) in
                add-count (virtual_spaces q.index (c ∷ cs)) (virtual_spaces q.index cs) p.vs (stop_at bytes p).vs q.vs (count-yes q.index c cs counts) t.vs more
            | inr t ↦ let upper : (stop_at bytes p).index ≤ q.index = later-index (stop_at bytes p).index (stop_at bytes p).vs q.index q.vs f.reached in absurd (omega (arith, t.index))
          ]
      | inr a ↦ absurd (cons≢nil c cs (sym e ∙ a.none))
    ]

-- from inside a tab on, as many as it has columns left
pub spaces-out : (bytes : List ℕ) (p q : Point) (cs : List Code) → codes_to bytes p q ≡ cs → IsPoint bytes p →
    IsPoint bytes q → is_before (place_of q) (place_of p) ≡ false → p.index < q.index → 0 < p.vs →
    virtual_spaces p.index cs ≡ tab_left p + 1
spaces-out bytes p q [] e h k l lt in_tab =
    elim (to-cases bytes p q h k l) [
      | inl f ↦ absurd (cons≢nil (code_here bytes p) (codes_to bytes (stop_at bytes p) q) (sym f.codes ∙ e))
      | inr a ↦ absurd (omega (arith, a.index))
    ]
spaces-out bytes p q (c ∷ cs) e h k l lt in_tab =
    elim (to-cases bytes p q h k l) [
      | inl f ↦
          let is : c ≡ code_here bytes p = head_same c (code_here bytes p) cs (codes_to bytes (stop_at bytes p) q) (sym e ∙ f.codes) in
          let rest : codes_to bytes (stop_at bytes p) q ≡ cs = sym (tail_same c (code_here bytes p) cs (codes_to bytes (stop_at bytes p) q) (sym e ∙ f.codes)) in
          let counts : is_virtual_space p.index c ≡ true = ap (λ (x : Code). is_virtual_space p.index x) is ∙ is-space p.index p.index p.vs refl in_tab in
          elim (shape bytes p (stands-point bytes p h)) [
            | inl t ↦
                let more : virtual_spaces (stop_at bytes p).index cs ≡ tab_left (stop_at bytes p) + 1 = spaces-out bytes (stop_at bytes p) q cs rest f.point k f.reached (omega (arith, t.index)) (omega (arith, t.vs)) in
                let here : virtual_spaces p.index cs ≡ tab_left (stop_at bytes p) + 1 = ap (λ i. virtual_spaces i cs) (sym t.index) ∙ more in
                count-yes p.index c cs counts ∙ ap (λ n. 1 + n) here ∙ left-column p.column (stop_at bytes p).column (stands-point bytes p h).from_one t.column t.more
            | inr t ↦
                let none : virtual_spaces p.index cs ≡ 0 = none-earlier bytes p.index (stop_at bytes p) q cs rest f.point k f.reached t.index in
                count-yes p.index c cs counts ∙ ap (λ n. 1 + n) none ∙ ap (λ n. n + 1) (sym (t.last in_tab))
          ]
      | inr a ↦ absurd (cons≢nil c cs (sym e ∙ a.none))
    ]

none-left : (i v w : ℕ) → v ≡ 0 → v ≡ w → virtual_spaces i [] ≡ w - 1
none-left i v w h k = omega arith

one-less : (n v w z : ℕ) → v ≡ 0 → w ≡ v + 1 → n + w ≡ z → n ≡ z - 1
one-less n v w z e f g = omega arith

way-on : (i v j : ℕ) → i ≤ j → v ≡ 0 → (i < j) ⊎ ((i ≡ j) × (v ≡ 0))
way-on i v j h e = elim (cases_lt i j) [ inl k ↦ inl k | inr k ↦ inr (omega arith, e) ]

not-space_way : (i index vs : ℕ) → (index < i) ⊎ ((index ≡ i) × (vs ≡ 0)) → (index == i && nat_lt 0 vs) ≡ false
not-space_way i index vs h = grind (arith, nat_tests)

-- up to a place inside a tab that begins on the way, all columns before it but the first
pub spaces-in : (bytes : List ℕ) (p q : Point) (cs : List Code) → codes_to bytes p q ≡ cs → IsPoint bytes p →
    IsPoint bytes q → is_before (place_of q) (place_of p) ≡ false →
    (p.index < q.index) ⊎ ((p.index ≡ q.index) × (p.vs ≡ 0)) → virtual_spaces q.index cs ≡ q.vs - 1
spaces-in bytes p q [] e h k l way =
    elim (to-cases bytes p q h k l) [
      | inl f ↦ absurd (cons≢nil (code_here bytes p) (codes_to bytes (stop_at bytes p) q) (sym f.codes ∙ e))
      | inr a ↦
          elim way [
            | inl lt ↦ absurd (omega (arith, a.index))
            | inr at ↦ none-left q.index p.vs q.vs at.1 a.vs
          ]
    ]
spaces-in bytes p q (c ∷ cs) e h k l way =
    elim (to-cases bytes p q h k l) [
      | inl f ↦
          let is : c ≡ code_here bytes p = head_same c (code_here bytes p) cs (codes_to bytes (stop_at bytes p) q) (sym e ∙ f.codes) in
          let rest : codes_to bytes (stop_at bytes p) q ≡ cs = sym (tail_same c (code_here bytes p) cs (codes_to bytes (stop_at bytes p) q) (sym e ∙ f.codes)) in
          let upper : (stop_at bytes p).index ≤ q.index = later-index (stop_at bytes p).index (stop_at bytes p).vs q.index q.vs f.reached in
          let other : is_virtual_space q.index c ≡ false = ap (λ (x : Code). is_virtual_space q.index x) is ∙ not-space_way q.index p.index p.vs way in
          count-no q.index c cs other
          ∙ elim (shape bytes p (stands-point bytes p h)) [
            | inl t ↦
                elim way [
                  | inl lt ↦ spaces-in bytes (stop_at bytes p) q cs rest f.point k f.reached (inl (omega (arith, t.index)))
                  | inr at ↦
                      let more : virtual_spaces q.index cs + (stop_at bytes p).vs ≡ q.vs = spaces-inside bytes (stop_at bytes p) q cs rest f.point k f.reached (t.index ∙ at.0) (omega (arith, t.vs)) in
                      one-less (virtual_spaces q.index cs) p.vs (stop_at bytes p).vs q.vs at.1 t.vs more
                ]
            | inr t ↦ spaces-in bytes (stop_at bytes p) q cs rest f.point k f.reached (way-on (stop_at bytes p).index (stop_at bytes p).vs q.index upper t.vs)
          ]
      | inr a ↦ absurd (cons≢nil c cs (sym e ∙ a.none))
    ]
