-- A walk that finds out whether it ends at a place.
use Rattle.std.proofs.Common.{ℕ, ◌+◌, ◌*◌, ◌<◌, ◌≤◌, Bool, true, false, ◌&&◌, ◌||◌, ◌==◌, ◌≡◌, arith, List, [], ◌∷◌, ◌++◌, length, refl, sym, ap, subst, ◌∙◌, inl, inr, Some, IsTrue, zero, suc, get_or, ◌-◌}
use Rattle.std.proofs.lemmas.Option.{same_Some}
use Rattle.std.proofs.Math.Bool.{or-false}
use Rattle.std.specs.List.{list_any}
use Rattle.std.proofs.lemmas.Bool.{cases_Bool, cases_lt, or_left, or_right, and_from, eq-eqb, false_from_ne_true}
use Rattle.std.proofs.lemmas.Bool.Decides.{nat_tests}
use Rattle.markdown_content.specs.declared.content.Stretch.{Stretch}
use Rattle.markdown_event.specs.declared.event.Point.{Point}
use Rattle.markdown_content.specs.Codes.{Code, line_feed, tab_value, next_column, is_line_ending_byte, document_start, codes_of, stop_of, place_of, point_at, is_code_before, is_line_ending, is_at_or_after}
use Rattle.markdown_content.specs.Content.{is_place, ends_line}
use Rattle.markdown_content.specs.DocumentWalk.{codes_after, IsPoint, next_point, value_from}
use Rattle.markdown_content.specs.ContentTest.{codes_up, columns_on, longer_by, IsStretchTo}
use Rattle.markdown_content.specs.PlainBytes.{ArePlain}
use Rattle.markdown_content.proofs.ByteSetLemmas.{plain-parts}
use Rattle.markdown_content.proofs.PlaceOrder.{is_before, same_place, before-self}
use Rattle.markdown_content.proofs.AdjacentCodes.{before_in}
use Rattle.markdown_content.proofs.DocumentCodes.{code_here, value_at, stop_at}
use Rattle.markdown_content.proofs.DocumentWalkLemmas.{few-end}
use Rattle.markdown_content.proofs.DocumentPlaces.{next, IsNextPlace, there, toward, stands-there, stands-point, inside-before, document-split, same-pair, vs-small}
use Rattle.markdown_content.proofs.NextPlace.{value-is, next_byte, value_byte, other_byte}
use Rattle.markdown_content.proofs.WalkSteps.{not_past, codes_left_at, falls, few-less}
use Rattle.markdown_content.proofs.ContentCodes.{none-before, passes}

-- A point of the document stands at a place of it.

stop-among : (p : Point) (c : Code) (front back : List Code) →
    list_any (λ d. d.stop.index == (stop_of c.stop front).index && d.stop.vs == (stop_of c.stop front).vs) (c ∷ front ++ back) ≡ true
stop-among p c [] back =
    or_left (c.stop.index == c.stop.index && c.stop.vs == c.stop.vs) _ (and_from _ _ (eq-eqb c.stop.index c.stop.index refl) (eq-eqb c.stop.vs c.stop.vs refl))
stop-among p c (d ∷ front) back = or_right _ _ (stop-among c.stop d front back)

place-split : (bytes : List ℕ) (front back : List Code) → codes_of bytes ≡ front ++ back →
    is_place bytes (place_of (stop_of document_start front)) ≡ true
place-split bytes [] back e = refl
place-split bytes (c ∷ front) back e =
    let q : Point = stop_of c.stop front in
    or_right (q.index == 0 && q.vs == 0) (list_any (λ d. d.stop.index == q.index && d.stop.vs == q.vs) (codes_of bytes)) (ap (λ (cs : List Code). list_any (λ d. d.stop.index == q.index && d.stop.vs == q.vs) cs) e ∙ stop-among document_start c front back)

pub place-point : (bytes : List ℕ) (p : Point) → IsPoint bytes p → is_place bytes (place_of p) ≡ true
place-point bytes p h =
    let split : is_place bytes (place_of (point_at bytes (place_of p))) ≡ true = place-split bytes (before_in (place_of p) (codes_of bytes)) (codes_after bytes (place_of p)) (document-split bytes (place_of p)) in
    subst (λ (x : Point). is_place bytes (place_of x) ≡ true) h.here split

-- whether the last code is a line ending, after a row of which that is known
abbrev pub ends_with : Bool → List Code → Bool
ends_with b [] = b
ends_with b (c ∷ cs) = ends_with (is_line_ending c) cs

ends-is : (cs : List Code) → ends_line cs ≡ ends_with false cs
ends-is [] = refl
ends-is (c ∷ []) = refl
ends-is (c ∷ d ∷ ds) = ends-is (d ∷ ds)

-- what a walk toward a place keeps
pub record IsReaching (bytes : List ℕ) (p : Point) (at : ℕ × ℕ) (s : Stretch) : Type 0 where
  pub point : IsPoint bytes s.point
  pub lines : list_any is_line_ending (codes_up bytes p at) ≡ (s.has_line_ending || list_any is_line_ending (codes_up bytes s.point at))
  pub ends : ends_line (codes_up bytes p at) ≡ ends_with s.ends_line (codes_up bytes s.point at)
  pub reached : is_place bytes at ≡ true → is_before at (place_of s.point) ≡ false

pub reaching-start : (bytes : List ℕ) (p : Point) (at : ℕ × ℕ) → IsPoint bytes p →
    IsTrue (is_at_or_after (place_of p) at) →
    IsReaching bytes p at (record { point = p; has_line_ending = false; ends_line = false })
reaching-start bytes p at h forward = record {
  point = h;
  lines = refl;
  ends = ends-is (codes_up bytes p at);
  reached = λ _. not_past (place_of p) at forward;
}

or-more : (a b c d : Bool) → b ≡ c → (a || (b || d)) ≡ ((a || c) || d)
or-more true b c d e = refl
or-more false b c d e = ap (λ (x : Bool). x || d) e

up-next : (bytes : List ℕ) (p : Point) (at : ℕ × ℕ) → IsPoint bytes p → p.index < length bytes →
    is_before (place_of p) at ≡ true → codes_up bytes p at ≡ code_here bytes p ∷ codes_up bytes (stop_at bytes p) at
up-next bytes p at h lt before =
    passes (is_code_before at) (code_here bytes p) (codes_after bytes (place_of (stop_at bytes p))) (codes_after bytes (place_of p)) before (next bytes p h lt).codes

reaching-stop : (bytes : List ℕ) (p : Point) (at : ℕ × ℕ) (s : Stretch) (t : Bool) → IsReaching bytes p at s →
    s.point.index < length bytes → is_before (place_of s.point) at ≡ true →
    is_line_ending (code_here bytes s.point) ≡ t →
    IsReaching bytes p at (record { point = stop_at bytes s.point; has_line_ending = s.has_line_ending || t; ends_line = t })
reaching-stop bytes p at s t h lt before is = grind (arith, up-next, next, or-more, toward, there)

-- one code further
pub reaching-next : (bytes : List ℕ) (p : Point) (at : ℕ × ℕ) (s : Stretch) (q : Point) (v : ℕ) (t b : Bool) →
    IsReaching bytes p at s → s.point.index < length bytes → is_before (place_of s.point) at ≡ true →
    value_from bytes s.point ≡ Some v → t ≡ (v == line_feed) → q ≡ next_point bytes s.point →
    b ≡ (s.has_line_ending || t) → IsReaching bytes p at (record { point = q; has_line_ending = b; ends_line = t })
reaching-next bytes p at s q v t b h lt before value test stop has =
    let same : value_at bytes s.point ≡ v = same_Some (value_at bytes s.point) v (sym (value-is bytes s.point h.point lt) ∙ value) in
    let is : is_line_ending (code_here bytes s.point) ≡ t = ap (λ (n : ℕ). n == line_feed) same ∙ sym test in
    let stopped : IsReaching bytes p at (record { point = q; has_line_ending = s.has_line_ending || t; ends_line = t }) = subst (λ (x : Point). IsReaching bytes p at (record { point = x; has_line_ending = s.has_line_ending || t; ends_line = t })) (sym (stop ∙ (next bytes s.point h.point lt).next)) (reaching-stop bytes p at s t h lt before is) in
    subst (λ (x : Bool). IsReaching bytes p at (record { point = q; has_line_ending = x; ends_line = t })) (sym has) stopped

pub reaching-less : (bytes : List ℕ) (p q : Point) → IsPoint bytes p → p.index < length bytes → q ≡ next_point bytes p →
    codes_left_at bytes q < codes_left_at bytes p
reaching-less bytes p q h lt stop =
    let one : IsNextPlace bytes p = next bytes p h lt in
    let n : Point = stop_at bytes p in
    let few : 0 + 4 * n.index + n.vs ≤ 4 * length bytes = few-end bytes n (stands-point bytes n one.point) in
    let less : codes_left_at bytes n < codes_left_at bytes p = falls (4 * length bytes) (4 * p.index + p.vs) (4 * n.index + n.vs) one.counts (few-less (4 * n.index) n.vs (4 * length bytes) few) in
    subst (λ (x : Point). codes_left_at bytes x < codes_left_at bytes p) (sym (stop ∙ one.next)) less

-- at the place
pub reaching-end : (bytes : List ℕ) (p : Point) (at : ℕ × ℕ) (s : Stretch) → IsReaching bytes p at s →
    s.point.index ≡ at.0 → s.point.vs ≡ at.1 → IsStretchTo bytes p at s
reaching-end bytes p at s h i v =
    let same : ◌≡◌ {A = ℕ × ℕ} (place_of s.point) at = same-pair s.point.index s.point.vs at i v in
    let here : is_before (place_of s.point) at ≡ false = ap (λ (x : ℕ × ℕ). is_before (place_of s.point) x) (sym same) ∙ before-self (place_of s.point) in
    let none : codes_up bytes s.point at ≡ [] = none-before bytes s.point at h.point here in
    record {
      place = ap (λ (x : ℕ × ℕ). is_place bytes x) (sym same) ∙ place-point bytes s.point h.point;
      point = sym h.point.here ∙ ap (λ (x : ℕ × ℕ). point_at bytes x) same;
      lines = sym (h.lines ∙ ap (λ (cs : List Code). s.has_line_ending || list_any is_line_ending cs) none ∙ or-false s.has_line_ending);
      ends = sym (h.ends ∙ ap (λ (cs : List Code). ends_with s.ends_line cs) none);
    }

-- where the walk stops and is not at the place, it is none of the document
pub reaching-none : (bytes : List ℕ) (p : Point) (at : ℕ × ℕ) (s : Stretch) → IsReaching bytes p at s →
    (s.point.index < length bytes → is_before (place_of s.point) at ≡ true → ⊥) →
    ((s.point.index ≡ at.0) × (s.point.vs ≡ at.1) → ⊥) → is_place bytes at ≡ false
reaching-none bytes p at s h stopped other =
    false_from_ne_true (is_place bytes at)
    (λ k.
    let n : (at.0 ≤ length bytes) × (at.1 ≤ 3) × (0 < at.1 → at.0 < length bytes) = stands-there bytes at (there bytes at k) in
    elim (cases_Bool (is_before (place_of s.point) at)) [
      | inl e ↦ stopped (inside-before (length bytes) s.point.index s.point.vs at.0 at.1 e n.0 n.2) e
      | inr e ↦ other (same_place (place_of s.point) at e (h.reached k))
    ])

pub both-tests : (a b c d : ℕ) (r : Bool) → r ≡ (a == c && b == d) → r ≡ true → (a ≡ c) × (b ≡ d)
both-tests a b c d r e h = grind (arith, nat_tests)

pub not-both : (a b c d : ℕ) (r : Bool) → r ≡ (a == c && b == d) → r ≡ false → (a ≡ c) × (b ≡ d) → ⊥
not-both a b c d r e h k = grind (arith, nat_tests)

-- Ordinary bytes.

none-some : (b : Bool) → b ≡ (b || false)
none-some true = refl
none-some false = refl

not-feed : (v : ℕ) → 13 < v → false ≡ (v == line_feed)
not-feed v h = grind (arith, nat_tests)

index-before : (a b c d : ℕ) → a < c → is_before (a, b) (c, d) ≡ true
index-before a b c d h = grind (arith, nat_tests)

control : (v c : ℕ) → 13 < v → c ≤ 13 → v ≡ c → ⊥
control v c h l e = omega arith

-- one ordinary byte further
reaching-byte : (bytes : List ℕ) (p : Point) (at : ℕ × ℕ) (s : Stretch) → IsReaching bytes p at s →
    s.point.index < length bytes → s.point.index < at.0 → 13 < get_or bytes s.point.index 0 →
    IsReaching bytes p at (record { point = next_column s.point (s.point.index + 1) 0; has_line_ending = s.has_line_ending; ends_line = false })
reaching-byte bytes p at s h lt before plain =
    let v : ℕ = get_or bytes s.point.index 0 in
    let ending : is_line_ending_byte v ≡ false = other_byte v (control v 10 plain (omega arith)) (control v 13 plain (omega arith)) in
    reaching-next bytes p at s (next_column s.point (s.point.index + 1) 0) v false s.has_line_ending h lt (index-before s.point.index s.point.vs at.0 at.1 before)
    (value_byte bytes s.point h.point lt ending (λ e. absurd (control v tab_value plain (omega arith) e))) (not-feed v plain) (next_byte bytes s.point h.point lt ending (λ e. absurd (control v tab_value plain (omega arith) e))) (none-some s.has_line_ending)

further : (p : Point) (m : ℕ) → next_column (columns_on p m) ((columns_on p m).index + 1) 0 ≡ columns_on p (suc m)
further p m = grind (arith)

-- past ordinary bytes before the place
reaching-plain : (bytes : List ℕ) (p : Point) (at : ℕ × ℕ) (s : Stretch) (m : ℕ) → IsReaching bytes p at s →
    s.point.index + m ≤ length bytes → s.point.index + m ≤ at.0 → ArePlain [] bytes s.point.index (s.point.index + m) →
    IsReaching bytes p at (longer_by m s)
reaching-plain bytes p at s zero h inside before plain = h
reaching-plain bytes p at s (suc zero) h inside before plain =
    reaching-byte bytes p at s h (omega (arith, inside)) (omega (arith, before)) (plain-parts [] _ (plain s.point.index (omega arith) (omega arith))).0
reaching-plain bytes p at s (suc (suc m)) h inside before plain =
    let t : Stretch = longer_by (suc m) s in
    let more : IsReaching bytes p at t = reaching-plain bytes p at s (suc m) h (omega (arith, inside)) (omega (arith, before)) (λ i low high. plain i low (omega (arith, high))) in
    subst (λ (q : Point). IsReaching bytes p at (record { point = q; has_line_ending = s.has_line_ending; ends_line = false })) (further s.point (suc m))
    (reaching-byte bytes p at t more (omega (arith, inside)) (omega (arith, before)) (plain-parts [] _ (plain (s.point.index + suc m) (omega arith) (omega arith))).0)

-- no more codes are left behind them
longer-left : (bytes : List ℕ) (m : ℕ) (s : Stretch) → IsPoint bytes s.point →
    codes_left_at bytes (longer_by m s).point ≤ codes_left_at bytes s.point
longer-left bytes zero s h = omega arith
longer-left bytes (suc m) s h =
    let few : s.point.vs ≤ 3 = vs-small bytes s.point (stands-point bytes s.point h) in
    omega (arith, few)

pub left-past : (bytes : List ℕ) (s t : Stretch) → IsPoint bytes s.point →
    t ≡ longer_by (t.point.index - s.point.index) s → codes_left_at bytes t.point ≤ codes_left_at bytes s.point
left-past bytes s t h e =
    subst (λ (x : Stretch). codes_left_at bytes x.point ≤ codes_left_at bytes s.point) (sym e) (longer-left bytes (t.point.index - s.point.index) s h)

-- a stretch with ordinary bytes behind it is on the same way
pub reaching-past : (bytes : List ℕ) (p : Point) (at : ℕ × ℕ) (s t : Stretch) → IsReaching bytes p at s → t ≡ longer_by (t.point.index - s.point.index) s → s.point.index ≤ t.point.index
    → (s.point.index < t.point.index → (t.point.index ≤ at.0) × (t.point.index ≤ length bytes)) → ArePlain [] bytes s.point.index t.point.index → IsReaching bytes p at t
reaching-past bytes p at s t h e forward within plain =
    let m : ℕ = t.point.index - s.point.index in
    elim (cases_lt s.point.index t.point.index) [
      | inl lt ↦
          subst (λ (x : Stretch). IsReaching bytes p at x) (sym e)
          (reaching-plain bytes p at s m h (omega (arith, lt, (within lt).1)) (omega (arith, lt, (within lt).0)) (λ i low high. plain i low (omega (arith, lt, high))))
      | inr ge ↦
          let none : m ≡ 0 = omega (arith, ge) in
          subst (λ (x : Stretch). IsReaching bytes p at x) (sym (e ∙ ap (λ (n : ℕ). longer_by n s) none)) h
    ]
