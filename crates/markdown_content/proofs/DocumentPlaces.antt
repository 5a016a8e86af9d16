-- The places of a document.
use Rattle.std.proofs.Common.{ℕ, ◌+◌, ◌*◌, ◌<◌, ◌≤◌, Bool, true, false, ◌&&◌, ◌==◌, ◌≡◌, arith, List, [], ◌∷◌, ◌++◌, length, take, refl, sym, ap, subst, ◌∙◌, inl, inr, append_assoc}
use Rattle.std.specs.List.{list_any}
use Rattle.std.proofs.lemmas.Bool.{both_ways, and_parts, eqb-true, or_cases}
use Rattle.std.proofs.lemmas.Bool.Decides.{nat_tests}
use Rattle.markdown_event.specs.declared.event.Point.{Point}
use Rattle.markdown_content.specs.Codes.{Code, document_start, codes_of, stop_of, place_of, point_at}
use Rattle.markdown_content.specs.Content.{is_place}
use Rattle.markdown_content.specs.DocumentWalk.{codes_after, IsPoint, next_point}
use Rattle.markdown_content.proofs.PlaceOrder.{is_before}
use Rattle.markdown_content.proofs.AdjacentCodes.{IsChain, before_in, from_in, before_in-split, from_in-split, split-at, no_straddle}
use Rattle.markdown_content.proofs.DocumentCodes.{codes_at, stop_at, code_here, HasPlaceNumbers, IsStep}
use Rattle.markdown_content.proofs.DocumentWalkLemmas.{step, stands-start, chain-at, first-of, IsFirstCode}

-- after some codes stand those that follow them
pub along : (bytes : List ℕ) (p : Point) (front back : List Code) → HasPlaceNumbers bytes p → codes_at bytes p ≡ front ++ back →
    (codes_at bytes (stop_of p front) ≡ back) × HasPlaceNumbers bytes (stop_of p front)
along bytes p [] back s e = (e, s)
along bytes p (c ∷ cs) back s e =
    let one : IsFirstCode bytes p c (cs ++ back) = first-of bytes p c (cs ++ back) s e in
    along bytes c.stop cs back one.stands (sym one.rest)

pub chain-document : (bytes : List ℕ) → IsChain document_start (codes_of bytes)
chain-document bytes = chain-at bytes document_start (codes_of bytes) (stands-start bytes) refl

pub chain-split : (bytes : List ℕ) (front back : List Code) → codes_of bytes ≡ front ++ back →
    IsChain document_start (front ++ back)
chain-split bytes front back e = subst (λ (cs : List Code). IsChain document_start cs) e (chain-document bytes)

-- after any of the document's first codes is a place
pub point-split : (bytes : List ℕ) (front back : List Code) → codes_of bytes ≡ front ++ back →
    point_at bytes (place_of (stop_of document_start front)) ≡ stop_of document_start front
point-split bytes front back e = grind (arith, before_in-split, chain-split)

pub after-split : (bytes : List ℕ) (front back : List Code) → codes_of bytes ≡ front ++ back →
    codes_after bytes (place_of (stop_of document_start front)) ≡ back
after-split bytes front back e = grind (arith, from_in-split, chain-split)

-- what a place of the document splits
pub document-split : (bytes : List ℕ) (at : ℕ × ℕ) →
    codes_of bytes ≡ before_in at (codes_of bytes) ++ codes_after bytes at
document-split bytes at = split-at document_start (codes_of bytes) at (chain-document bytes)

pub along-document : (bytes : List ℕ) (at : ℕ × ℕ) →
    (codes_at bytes (point_at bytes at) ≡ codes_after bytes at) × HasPlaceNumbers bytes (point_at bytes at)
along-document bytes at =
    along bytes document_start (before_in at (codes_of bytes)) (codes_after bytes at) (stands-start bytes) (document-split bytes at)

pub stands-point : (bytes : List ℕ) (p : Point) → IsPoint bytes p → HasPlaceNumbers bytes p
stands-point bytes p h = subst (λ (x : Point). HasPlaceNumbers bytes x) h.here (along-document bytes (place_of p)).1

pub codes-point : (bytes : List ℕ) (p : Point) → IsPoint bytes p → codes_at bytes p ≡ codes_after bytes (place_of p)
codes-point bytes p h = ap (λ (x : Point). codes_at bytes x) (sym h.here) ∙ (along-document bytes (place_of p)).0

-- what follows at a place of the document
pub record IsNextPlace (bytes : List ℕ) (p : Point) : Type 0 where
  pub point : IsPoint bytes (stop_at bytes p)
  pub codes : codes_after bytes (place_of p) ≡ code_here bytes p ∷ codes_after bytes (place_of (stop_at bytes p))
  pub next : next_point bytes p ≡ stop_at bytes p
  pub later : is_before (place_of p) (place_of (stop_at bytes p)) ≡ true
  pub counts : 4 * p.index + p.vs + 1 ≤ 4 * (stop_at bytes p).index + (stop_at bytes p).vs

pub stop-more : (p : Point) (cs : List Code) (c : Code) → stop_of p (cs ++ c ∷ []) ≡ c.stop
stop-more p [] c = refl
stop-more p (d ∷ cs) c = stop-more d.stop cs c

next-is : (bytes : List ℕ) (p : Point) (c : Code) (cs : List Code) → codes_after bytes (place_of p) ≡ c ∷ cs →
    next_point bytes p ≡ c.stop
unfolding next_point
next-is bytes p c cs e = ap (λ xs. stop_of p (take 1 xs)) e

pub next : (bytes : List ℕ) (p : Point) → IsPoint bytes p → p.index < length bytes → IsNextPlace bytes p
next bytes p h lt =
    let one : IsStep bytes p (code_here bytes p).value (stop_at bytes p) = step bytes p (stands-point bytes p h) lt in
    let front : List Code = before_in (place_of p) (codes_of bytes) in
    let c : Code = code_here bytes p in
    let back : List Code = codes_at bytes (stop_at bytes p) in
    let here : codes_after bytes (place_of p) ≡ c ∷ back = sym (codes-point bytes p h) ∙ one.codes in
    let whole : codes_of bytes ≡ (front ++ c ∷ []) ++ back = document-split bytes (place_of p) ∙ ap (λ xs. front ++ xs) here ∙ sym (append_assoc front (c ∷ []) back) in
    let stop : stop_of document_start (front ++ c ∷ []) ≡ stop_at bytes p = stop-more document_start front c in
    let point : IsPoint bytes (stop_at bytes p) = record { here = subst (λ (x : Point). point_at bytes (place_of x) ≡ x) stop (point-split bytes (front ++ c ∷ []) back whole) } in
    record {
      point = point;
      codes = here ∙ ap (λ xs. c ∷ xs) (codes-point bytes (stop_at bytes p) point);
      next = next-is bytes p c back here;
      later = one.later;
      counts = one.counts;
    }

pub point_start : (bytes : List ℕ) → IsPoint bytes document_start
point_start bytes = record { here = point-split bytes [] (codes_of bytes) refl }

-- A place of the document by its numbers.

any-split : (f : Code → Bool) (cs : List Code) → list_any f cs ≡ true →
    (front : List Code) × (c : Code) × (back : List Code) × (cs ≡ front ++ c ∷ back) × (f c ≡ true)
any-split f [] h = absurd (both_ways false refl h)
any-split f (c ∷ cs) h =
    elim (or_cases (f c) (list_any f cs) h) [
      | inl k ↦ ([], c, cs, refl, k)
      | inr k ↦ let (front, d, back, e, l) = any-split f cs k in (c ∷ front, d, back, ap (λ xs. c ∷ xs) e, l)
    ]

-- a place of the document is that of its point
pub record IsThere (bytes : List ℕ) (at : ℕ × ℕ) : Type 0 where
  pub place : place_of (point_at bytes at) ≡ at
  pub point : IsPoint bytes (point_at bytes at)

pub same-pair : (a b : ℕ) (at : ℕ × ℕ) → a ≡ at.0 → b ≡ at.1 → ◌≡◌ {A = ℕ × ℕ} (a, b) at
same-pair a b at e f = ap (λ (x : ℕ). let q : ℕ × ℕ = (x, b) in q) e ∙ ap (λ (x : ℕ). let q : ℕ × ℕ = (at.0, x) in q) f

there-split : (bytes : List ℕ) (at : ℕ × ℕ) (front back : List Code) → codes_of bytes ≡ front ++ back →
    place_of (stop_of document_start front) ≡ at → IsThere bytes at
there-split bytes at front back e h = grind (arith, point-split)

there-stop : (bytes : List ℕ) (at : ℕ × ℕ) →
    list_any (λ c. c.stop.index == at.0 && c.stop.vs == at.1) (codes_of bytes) ≡ true → IsThere bytes at
there-stop bytes at h =
    let (front, c, back, e, k) = any-split (λ c. c.stop.index == at.0 && c.stop.vs == at.1) (codes_of bytes) h in
    let both : (c.stop.index == at.0 ≡ true) × (c.stop.vs == at.1 ≡ true) = and_parts (c.stop.index == at.0) (c.stop.vs == at.1) k in
    let place : place_of c.stop ≡ at = same-pair c.stop.index c.stop.vs at (eqb-true c.stop.index at.0 both.0) (eqb-true c.stop.vs at.1 both.1) in
    there-split bytes at (front ++ c ∷ []) back (e ∙ sym (append_assoc front (c ∷ []) back)) (ap (λ (x : Point). place_of x) (stop-more document_start front c) ∙ place)

there-start : (bytes : List ℕ) (at : ℕ × ℕ) → (at.0 == 0 && at.1 == 0) ≡ true → IsThere bytes at
there-start bytes at h =
    let both : (at.0 == 0 ≡ true) × (at.1 == 0 ≡ true) = and_parts (at.0 == 0) (at.1 == 0) h in
    there-split bytes at [] (codes_of bytes) refl (same-pair 0 0 at (sym (eqb-true at.0 0 both.0)) (sym (eqb-true at.1 0 both.1)))

pub there : (bytes : List ℕ) (at : ℕ × ℕ) → is_place bytes at ≡ true → IsThere bytes at
there bytes at h = grind (arith, or_cases, there-start, there-stop)

pub vs-small : (bytes : List ℕ) (p : Point) → HasPlaceNumbers bytes p → p.vs ≤ 3
vs-small bytes p s = omega (arith, s.inside)

-- the numbers of a place of the document
pub stands-there : (bytes : List ℕ) (at : ℕ × ℕ) → IsThere bytes at →
    (at.0 ≤ length bytes) × (at.1 ≤ 3) × (0 < at.1 → at.0 < length bytes)
stands-there bytes at t =
    let s : HasPlaceNumbers bytes (point_at bytes at) = stands-point bytes (point_at bytes at) t.point in
    subst (λ (x : ℕ × ℕ). (x.0 ≤ length bytes) × (x.1 ≤ 3) × (0 < x.1 → x.0 < length bytes)) t.place (s.in_bytes, vs-small bytes (point_at bytes at) s, λ k. (s.in_tab k).0)

-- a point's own place
pub there-point : (bytes : List ℕ) (p : Point) → IsPoint bytes p → IsThere bytes (place_of p)
there-point bytes p h =
    record { place = ap (λ (x : Point). place_of x) h.here; point = subst (λ (x : Point). IsPoint bytes x) (sym h.here) h }

-- before a place of the document there is a code, and it ends there or before
pub record IsToward (bytes : List ℕ) (p : Point) (at : ℕ × ℕ) : Type 0 where
  pub in_bytes : p.index < length bytes
  pub next : IsNextPlace bytes p
  pub reached : is_before at (place_of (stop_at bytes p)) ≡ false

pub inside-before : (n i v a b : ℕ) → is_before (i, v) (a, b) ≡ true → a ≤ n → (0 < b → a < n) → i < n
inside-before n i v a b h k l = grind (arith, nat_tests)

pub toward : (bytes : List ℕ) (p : Point) (at : ℕ × ℕ) → IsPoint bytes p → IsThere bytes at →
    is_before (place_of p) at ≡ true → IsToward bytes p at
toward bytes p at h t before =
    let n : (at.0 ≤ length bytes) × (at.1 ≤ 3) × (0 < at.1 → at.0 < length bytes) = stands-there bytes at t in
    let lt : p.index < length bytes = inside-before (length bytes) p.index p.vs at.0 at.1 before n.0 n.2 in
    let one : IsNextPlace bytes p = next bytes p h lt in
    let c : Code = code_here bytes p in
    let front : List Code = before_in (place_of p) (codes_of bytes) in
    let back : List Code = codes_after bytes (place_of (stop_at bytes p)) in
    let whole : codes_of bytes ≡ front ++ c ∷ back = document-split bytes (place_of p) ∙ ap (λ xs. front ++ xs) one.codes in
    let both : front ++ c ∷ back ≡ before_in at (codes_of bytes) ++ codes_after bytes at = sym whole ∙ document-split bytes at in
    let start : is_before (place_of p) (place_of (point_at bytes at)) ≡ true = ap (λ (x : ℕ × ℕ). is_before (place_of p) x) t.place ∙ before in
    let end : is_before (place_of (point_at bytes at)) (place_of (stop_at bytes p)) ≡ false = no_straddle document_start front c back (before_in at (codes_of bytes)) (codes_after bytes at) (chain-split bytes front (c ∷ back) whole) both start in
    record { in_bytes = lt; next = one; reached = ap (λ (x : ℕ × ℕ). is_before x (place_of (stop_at bytes p))) (sym t.place) ∙ end }
