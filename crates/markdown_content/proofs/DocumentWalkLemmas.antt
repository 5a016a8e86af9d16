-- A document's codes, place by place.
use Rattle.std.proofs.Common.{ℕ, zero, suc, ◌+◌, ◌*◌, ◌<◌, ◌≤◌, Bool, true, false, ◌&&◌, nat_lt, ◌==◌, ◌≡◌, arith, List, [], ◌∷◌, length, drop, get_or, refl, sym, ap, subst, ◌∙◌, if◌then◌else◌, inl, inr}
use Rattle.std.proofs.lemmas.List.{drop_all}
use Rattle.std.proofs.lemmas.Bool.{eqb-true, cases_lt, lt-ltb, le-ltb, and_right}
use Rattle.std.proofs.lemmas.Bool.Decides.{nat_tests}
use Rattle.markdown_event.specs.declared.event.Point.{Point}
use Rattle.markdown_content.specs.Codes.{Code, tab_value, line_feed, space_value, line_start, document_start, next_column, is_line_ending_byte, line_ending_len, codes_from, place_of}
use Rattle.markdown_content.proofs.PlaceOrder.{is_before}
use Rattle.markdown_content.proofs.AdjacentCodes.{IsChain, head_same, tail_same}
use Rattle.markdown_content.proofs.DocumentCodes.{tab_left, codes_at, value_at, stop_at, code_here, HasPlaceNumbers, IsStep, codes-none_inside, ending-step, plain-step, last-step, more-step}

pub value-ending : (bytes : List ℕ) (p : Point) → is_line_ending_byte (get_or bytes p.index 0) ≡ true →
    line_feed ≡ value_at bytes p
value-ending bytes p h = rw h refl

pub stop-ending : (bytes : List ℕ) (p : Point) → is_line_ending_byte (get_or bytes p.index 0) ≡ true →
    line_start (p.line + 1) (p.index + line_ending_len (get_or bytes p.index 0) (drop (p.index + 1) bytes)) ≡ stop_at bytes p
stop-ending bytes p h = rw h refl

pub value-plain : (bytes : List ℕ) (p : Point) → is_line_ending_byte (get_or bytes p.index 0) ≡ false →
    (get_or bytes p.index 0 == tab_value) ≡ false → get_or bytes p.index 0 ≡ value_at bytes p
value-plain bytes p h k = rw (h, k) refl

pub stop-plain : (bytes : List ℕ) (p : Point) → is_line_ending_byte (get_or bytes p.index 0) ≡ false →
    (get_or bytes p.index 0 == tab_value) ≡ false → next_column p (p.index + 1) 0 ≡ stop_at bytes p
stop-plain bytes p h k = rw (h, k) refl

pub value-tab : (bytes : List ℕ) (p : Point) → is_line_ending_byte (get_or bytes p.index 0) ≡ false →
    (get_or bytes p.index 0 == tab_value) ≡ true → (if nat_lt 0 p.vs then space_value else tab_value) ≡ value_at bytes p
value-tab bytes p h k = grind (arith, eqb-true)

pub stop-last : (bytes : List ℕ) (p : Point) → is_line_ending_byte (get_or bytes p.index 0) ≡ false →
    nat_lt 0 (tab_left p) ≡ false → next_column p (p.index + 1) 0 ≡ stop_at bytes p
stop-last bytes p h k = grind (arith, and_right)

pub stop-more : (bytes : List ℕ) (p : Point) → is_line_ending_byte (get_or bytes p.index 0) ≡ false →
    (get_or bytes p.index 0 == tab_value) ≡ true → nat_lt 0 (tab_left p) ≡ true →
    next_column p p.index (p.vs + 1) ≡ stop_at bytes p
stop-more bytes p h k l = rw (h, k, l) refl

nil≢cons : (c : Code) (cs : List Code) → [] ≡ c ∷ cs → ⊥
nil≢cons c cs e = cc

pub few-end : (bytes : List ℕ) (p : Point) → HasPlaceNumbers bytes p → 0 + 4 * p.index + p.vs ≤ 4 * length bytes
few-end bytes p s = grind (arith, cases_lt)

-- the code at a place, and the place after it
step-as : (bytes : List ℕ) (p q : Point) (v : ℕ) → v ≡ value_at bytes p → q ≡ stop_at bytes p → IsStep bytes p v q →
    IsStep bytes p (value_at bytes p) (stop_at bytes p)
step-as bytes p q v e f s =
    subst (λ (x : Point). IsStep bytes p (value_at bytes p) x) f (subst (λ (x : ℕ). IsStep bytes p x q) e s)

tab-not_ending : (b : ℕ) → (b == tab_value) ≡ true → is_line_ending_byte b ≡ false
tab-not_ending b h = grind (arith, nat_tests)

step-tab : (bytes : List ℕ) (p : Point) → HasPlaceNumbers bytes p → p.index < length bytes →
    (get_or bytes p.index 0 == tab_value) ≡ true → (n : ℕ) → tab_left p ≡ n →
    IsStep bytes p (value_at bytes p) (stop_at bytes p)
step-tab bytes p s lt h zero left =
    let plain : is_line_ending_byte (get_or bytes p.index 0) ≡ false = tab-not_ending (get_or bytes p.index 0) h in
    let none : nat_lt 0 (tab_left p) ≡ false = le-ltb 0 (tab_left p) (omega arith) in
    step-as bytes p (next_column p (p.index + 1) 0) (if nat_lt 0 p.vs then space_value else tab_value) (value-tab bytes p plain h) (stop-last bytes p plain none) (last-step bytes p s lt h left)
step-tab bytes p s lt h (suc n) left =
    let plain : is_line_ending_byte (get_or bytes p.index 0) ≡ false = tab-not_ending (get_or bytes p.index 0) h in
    let more : nat_lt 0 (tab_left p) ≡ true = lt-ltb 0 (tab_left p) (omega arith) in
    step-as bytes p (next_column p p.index (p.vs + 1)) (if nat_lt 0 p.vs then space_value else tab_value) (value-tab bytes p plain h) (stop-more bytes p plain h more) (more-step n bytes p s lt h left)

step-by : (bytes : List ℕ) (p : Point) → HasPlaceNumbers bytes p → p.index < length bytes → (t u : Bool) →
    is_line_ending_byte (get_or bytes p.index 0) ≡ t → (get_or bytes p.index 0 == tab_value) ≡ u →
    IsStep bytes p (value_at bytes p) (stop_at bytes p)
step-by bytes p s lt true u h k =
    step-as bytes p (line_start (p.line + 1) (p.index + line_ending_len (get_or bytes p.index 0) (drop (p.index + 1) bytes))) line_feed (value-ending bytes p h) (stop-ending bytes p h) (ending-step bytes p s lt h)
step-by bytes p s lt false true h k = step-tab bytes p s lt k (tab_left p) refl
step-by bytes p s lt false false h k =
    step-as bytes p (next_column p (p.index + 1) 0) (get_or bytes p.index 0) (value-plain bytes p h k) (stop-plain bytes p h k) (plain-step bytes p s lt h k)

pub step : (bytes : List ℕ) (p : Point) → HasPlaceNumbers bytes p → p.index < length bytes →
    IsStep bytes p (value_at bytes p) (stop_at bytes p)
step bytes p s lt =
    step-by bytes p s lt (is_line_ending_byte (get_or bytes p.index 0)) (get_or bytes p.index 0 == tab_value) refl refl

-- at the end there are no codes
pub past-end : (bytes : List ℕ) (p : Point) → HasPlaceNumbers bytes p → length bytes ≤ p.index → codes_at bytes p ≡ []
past-end bytes p s ge = grind (arith, cases_lt, codes-none_inside, drop_all)

pub stands-start : (bytes : List ℕ) → HasPlaceNumbers bytes document_start
stands-start bytes = record {
  in_bytes = omega arith;
  in_tab = λ k. absurd (omega (arith, k));
  from_one = omega arith;
  inside = omega arith;
  columns = omega arith;
  lines = omega arith;
}

-- The document's codes from a place on are a chain, and few.

some-left : (bytes : List ℕ) (p : Point) (c : Code) (cs : List Code) → HasPlaceNumbers bytes p → codes_at bytes p ≡ c ∷ cs →
    p.index < length bytes
some-left bytes p c cs s e = grind (arith, cases_lt, past-end, nil≢cons)

-- the first code at a place
pub record IsFirstCode (bytes : List ℕ) (p : Point) (c : Code) (cs : List Code) : Type 0 where
  pub in_bytes : p.index < length bytes
  pub code : c ≡ code_here bytes p
  pub rest : cs ≡ codes_at bytes c.stop
  pub stands : HasPlaceNumbers bytes c.stop
  pub later : is_before (place_of p) (place_of c.stop) ≡ true
  pub counts : 4 * p.index + p.vs + 1 ≤ 4 * c.stop.index + c.stop.vs

pub first-of : (bytes : List ℕ) (p : Point) (c : Code) (cs : List Code) → HasPlaceNumbers bytes p → codes_at bytes p ≡ c ∷ cs →
    IsFirstCode bytes p c cs
first-of bytes p c cs s e = grind (arith, some-left, step, head_same, tail_same)

pub chain-at : (bytes : List ℕ) (p : Point) (cs : List Code) → HasPlaceNumbers bytes p → codes_at bytes p ≡ cs → IsChain p cs
chain-at bytes p [] s e = tt
chain-at bytes p (c ∷ cs) s e =
    let one : IsFirstCode bytes p c cs = first-of bytes p c cs s e in
    (ap (λ (x : Code). x.start) one.code, one.later, chain-at bytes c.stop cs one.stands (sym one.rest))

pub few-at : (bytes : List ℕ) (p : Point) (cs : List Code) → HasPlaceNumbers bytes p → codes_at bytes p ≡ cs →
    length cs + 4 * p.index + p.vs ≤ 4 * length bytes
few-at bytes p [] s e = few-end bytes p s
few-at bytes p (c ∷ cs) s e =
    let one : IsFirstCode bytes p c cs = first-of bytes p c cs s e in
    let less : length cs + 4 * c.stop.index + c.stop.vs ≤ 4 * length bytes = few-at bytes c.stop cs one.stands (sym one.rest) in
    omega (arith, one.counts)
