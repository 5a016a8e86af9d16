-- walks over the codes of a stretch
use Rattle.std.proofs.Common.{◌≡◌, ℕ, suc, ◌+◌, ◌*◌, ◌<◌, ◌≤◌, ◌==◌, ◌&&◌, not, Bool, true, false, List, [], ◌∷◌, length, Some, IsTrue, refl, sym, ap, subst, ◌∙◌, arith, ◌⊎◌, inl, inr, if◌then◌else◌, filter}
use Rattle.std.specs.List.{list_all}
use Rattle.std.proofs.lemmas.Bool.{cases_Bool, both_ways, not-true}
use Rattle.std.proofs.lemmas.Bool.Decides.{nat_tests}
use Rattle.markdown_content.specs.Codes.{Code, codes_of, is_blank, is_code_before, is_at_or_after, place_of, stop_of, point_at}
use Rattle.markdown_content.specs.DocumentWalk.{codes_after, IsPoint, next_point, value_from}
use Rattle.markdown_event.specs.declared.event.Point.{Point}
use Rattle.markdown_engine.proofs.PlaceBounds.{document_few}
use Rattle.markdown_content.proofs.PlaceOrder.{is_before, at_or_after-is, same_place}
use Rattle.markdown_content.proofs.DocumentCodes.{code_here, stop_at}
use Rattle.markdown_content.proofs.DocumentPlaces.{IsToward, toward, there-point}
use Rattle.markdown_content.proofs.ContentCodes.{none-before, passes}
use Rattle.markdown_model.specs.CodeTests.{is_real_space}
use Rattle.markdown_passes.specs.TrimmedData.{between, IsStretch, end_of_lead, at_real_space, is_same_place}
use Rattle.markdown_model.proofs.GrammarSteps.{span-takes, span-none}
use Rattle.markdown_plan.specs.ByteTests.{at_blank}

-- a stretch that is not at its end has a first code
pub record IsBegun (bytes : List ℕ) (p q : Point) : Type 0 where
  pub in_bytes : p.index < length bytes
  pub codes : between bytes p q ≡ code_here bytes p ∷ between bytes (stop_at bytes p) q
  pub next : next_point bytes p ≡ stop_at bytes p
  pub later : is_before (place_of p) (place_of (stop_at bytes p)) ≡ true
  pub value : value_from bytes p ≡ Some (code_here bytes p).value
  pub stretch : IsStretch bytes (stop_at bytes p) q

pub forward-as : (p q : Point) → is_before (place_of q) (place_of p) ≡ false →
    IsTrue (is_at_or_after (place_of p) (place_of q))
forward-as p q h = at_or_after-is (place_of p) (place_of q) ∙ ap (λ b. not b) h

pub backward : (bytes : List ℕ) (p q : Point) → IsStretch bytes p q → is_before (place_of q) (place_of p) ≡ false
backward bytes p q s =
    not-true (is_before (place_of q) (place_of p)) (sym (at_or_after-is (place_of p) (place_of q)) ∙ s.forward)

value-first : (bytes : List ℕ) (p : Point) (c : Code) (cs : List Code) → codes_after bytes (place_of p) ≡ c ∷ cs →
    value_from bytes p ≡ Some c.value
unfolding value_from
value-first bytes p c cs e = rw e refl

pub begun-of : (bytes : List ℕ) (p q : Point) → IsStretch bytes p q → is_before (place_of p) (place_of q) ≡ true →
    IsBegun bytes p q
unfolding between
begun-of bytes p q s before =
    let t : IsToward bytes p (place_of q) = toward bytes p (place_of q) s.from_place (there-point bytes q s.to_place) before in
    record {
      in_bytes = t.in_bytes;
      codes = passes (is_code_before (place_of q)) (code_here bytes p) (codes_after bytes (place_of (stop_at bytes p))) (codes_after bytes (place_of p)) before t.next.codes;
      next = t.next.next;
      later = t.next.later;
      value = value-first bytes p (code_here bytes p) (codes_after bytes (place_of (stop_at bytes p))) t.next.codes;
      stretch = record { from_place = t.next.point; to_place = s.to_place; forward = forward-as (stop_at bytes p) q t.reached };
    }

-- one that is has none
pub record IsEnded (bytes : List ℕ) (p q : Point) : Type 0 where
  pub none : between bytes p q ≡ []
  pub index : p.index ≡ q.index
  pub vs : p.vs ≡ q.vs
  pub point : p ≡ q

one-place : (bytes : List ℕ) (p q : Point) → IsPoint bytes p → IsPoint bytes q → p.index ≡ q.index → p.vs ≡ q.vs → p ≡ q
one-place bytes p q h k e f =
    sym h.here ∙ ap (λ i. point_at bytes (i, p.vs)) e ∙ ap (λ v. point_at bytes (q.index, v)) f ∙ k.here

pub ended-of : (bytes : List ℕ) (p q : Point) → IsStretch bytes p q → is_before (place_of p) (place_of q) ≡ false →
    IsEnded bytes p q
unfolding between
ended-of bytes p q s h =
    let same : (p.index ≡ q.index) × (p.vs ≡ q.vs) = same_place (place_of p) (place_of q) h (backward bytes p q s) in
    record { none = none-before bytes p (place_of q) s.from_place h; index = same.0; vs = same.1; point = one-place bytes p q s.from_place s.to_place same.0 same.1 }

pub stretch-cases : (bytes : List ℕ) (p q : Point) → IsStretch bytes p q → IsBegun bytes p q ⊎ IsEnded bytes p q
stretch-cases bytes p q s =
    elim (cases_Bool (is_before (place_of p) (place_of q))) [
      | inl e ↦ inl (begun-of bytes p q s e)
      | inr e ↦ inr (ended-of bytes p q s e)
    ]

same-numbers : (a b c d : ℕ) → is_before (a, b) (c, d) ≡ true → (a == c && b == d) ≡ false
same-numbers a b c d h = grind (arith, nat_tests)

same-both : (a b c d : ℕ) → a ≡ c → b ≡ d → (a == c && b == d) ≡ true
same-both a b c d e f = grind (arith, nat_tests)

pub begun-where : (bytes : List ℕ) (p q : Point) → IsStretch bytes p q → is_same_place p q ≡ false → IsBegun bytes p q
begun-where bytes p q s h =
    elim (stretch-cases bytes p q s) [
      | inl b ↦ b
      | inr e ↦ absurd (both_ways (is_same_place p q) h (same-both p.index p.vs q.index q.vs e.index e.vs))
    ]

same-is : (bytes : List ℕ) (p q : Point) → IsStretch bytes p q → is_same_place p q ≡ true →
    is_before (place_of p) (place_of q) ≡ false
same-is bytes p q s h =
    elim (cases_Bool (is_before (place_of p) (place_of q))) [
      | inl e ↦ absurd (both_ways (is_same_place p q) (same-numbers p.index p.vs q.index q.vs e) h)
      | inr e ↦ e
    ]

pub ended-where : (bytes : List ℕ) (p q : Point) → IsStretch bytes p q → is_same_place p q ≡ true → IsEnded bytes p q
ended-where bytes p q s h = ended-of bytes p q s (same-is bytes p q s h)

-- One code of a walk.

-- a walk back to front would be a walk with the last place that it keeps
abbrev pub last_kept : Point → List Code → Point
last_kept kept [] = kept
last_kept kept (c ∷ cs) = last_kept (if is_blank c then kept else c.stop) cs

one-fewer : (bytes : List ℕ) (p q r : Point) → IsBegun bytes p q → r ≡ next_point bytes p →
    length (between bytes p q) ≡ suc (length (between bytes r q))
one-fewer bytes p q r b e = ap length b.codes ∙ ap (λ (x : Point). suc (length (between bytes x q))) (sym (e ∙ b.next))

-- what is left to be walked
pub shorter : (bytes : List ℕ) (p q : Point) (r : Point) → IsBegun bytes p q → r ≡ next_point bytes p →
    length (between bytes r q) < length (between bytes p q)
shorter bytes p q r b e =
    let counts = one-fewer bytes p q r b e in omega (arith, counts)

pub stretch-next : (bytes : List ℕ) (p q r : Point) → IsBegun bytes p q → r ≡ next_point bytes p → IsStretch bytes r q
stretch-next bytes p q r b e = subst (λ (x : Point). IsStretch bytes x q) (sym (e ∙ b.next)) b.stretch

blank-here : (bytes : List ℕ) (p q : Point) (t : Bool) → IsBegun bytes p q → t ≡ at_blank (value_from bytes p) →
    t ≡ is_blank (code_here bytes p)
blank-here bytes p q t b e = e ∙ ap at_blank b.value

pub kept-next : (bytes : List ℕ) (p q r kept more : Point) (t : Bool) → IsBegun bytes p q → r ≡ next_point bytes p →
    t ≡ at_blank (value_from bytes p) → more ≡ (if t then kept else r) →
    last_kept kept (between bytes p q) ≡ last_kept more (between bytes r q)
kept-next bytes p q r kept more t b e f g =
    let there : r ≡ stop_at bytes p = e ∙ b.next in
    ap (last_kept kept) b.codes
    ∙ ap (λ x. last_kept (if x then kept else stop_at bytes p) (between bytes (stop_at bytes p) q)) (sym (blank-here bytes p q t b f))
    ∙ ap (λ (x : Point). last_kept (if t then kept else x) (between bytes x q)) (sym there)
    ∙ ap (λ x. last_kept x (between bytes r q)) (sym g)

lead-yes : (p : Point) (c : Code) (cs : List Code) → is_blank c ≡ true → end_of_lead p (c ∷ cs) ≡ end_of_lead c.stop cs
unfolding end_of_lead
lead-yes p c cs h = ap (λ (s : List Code × List Code). stop_of p s.0) (span-takes is_blank c cs h)

lead-no : (p : Point) (c : Code) (cs : List Code) → is_blank c ≡ false → end_of_lead p (c ∷ cs) ≡ p
unfolding end_of_lead
lead-no p c cs h = ap (λ (s : List Code × List Code). stop_of p s.0) (span-none is_blank (c ∷ cs) h)

pub lead-next : (bytes : List ℕ) (p q r : Point) (t : Bool) → IsBegun bytes p q → r ≡ next_point bytes p →
    t ≡ at_blank (value_from bytes p) → t ≡ true → end_of_lead p (between bytes p q) ≡ end_of_lead r (between bytes r q)
lead-next bytes p q r t b e f h =
    let there : r ≡ stop_at bytes p = e ∙ b.next in
    ap (end_of_lead p) b.codes
    ∙ lead-yes p (code_here bytes p) (between bytes (stop_at bytes p) q) (sym (blank-here bytes p q t b f) ∙ h)
    ∙ ap (λ (x : Point). end_of_lead x (between bytes x q)) (sym there)

pub lead-stop : (bytes : List ℕ) (p q : Point) (t : Bool) → IsBegun bytes p q → t ≡ at_blank (value_from bytes p) →
    t ≡ false → end_of_lead p (between bytes p q) ≡ p
lead-stop bytes p q t b f h =
    ap (end_of_lead p) b.codes ∙ lead-no p (code_here bytes p) (between bytes (stop_at bytes p) q) (sym (blank-here bytes p q t b f) ∙ h)

pub lead-end : (bytes : List ℕ) (p q : Point) → IsEnded bytes p q → end_of_lead p (between bytes p q) ≡ p
unfolding end_of_lead
lead-end bytes p q e = ap (end_of_lead p) e.none

pub kept-same : (bytes : List ℕ) (p q r kept : Point) (t : Bool) → IsBegun bytes p q → r ≡ next_point bytes p →
    t ≡ at_blank (value_from bytes p) → t ≡ true →
    last_kept kept (between bytes p q) ≡ last_kept kept (between bytes r q)
kept-same bytes p q r kept t b e f h = kept-next bytes p q r kept kept t b e f (ap (λ x. if x then kept else r) (sym h))

pub kept-moved : (bytes : List ℕ) (p q r kept : Point) (t : Bool) → IsBegun bytes p q → r ≡ next_point bytes p →
    t ≡ at_blank (value_from bytes p) → t ≡ false → last_kept kept (between bytes p q) ≡ last_kept r (between bytes r q)
kept-moved bytes p q r kept t b e f h = kept-next bytes p q r kept r t b e f (ap (λ x. if x then kept else r) (sym h))

-- Hard breaks.

-- how many spaces stand at the end of codes, as a walk counts them
abbrev pub spaces_after : ℕ → List Code → ℕ
spaces_after n [] = n
spaces_after n (c ∷ cs) = spaces_after (if is_real_space c then n + 1 else 0) cs

pub spaces-next : (bytes : List ℕ) (p q r : Point) (n : ℕ) (t : Bool) → IsBegun bytes p q → r ≡ next_point bytes p →
    t ≡ at_real_space (value_from bytes p) p → spaces_after (if t then n + 1 else 0) (between bytes r q) ≡ spaces_after n (between bytes p q)
spaces-next bytes p q r n t b e f =
    let there : r ≡ stop_at bytes p = e ∙ b.next in
    let space : t ≡ is_real_space (code_here bytes p) = f ∙ ap (λ v. at_real_space v p) b.value in
    sym (ap (spaces_after n) b.codes
    ∙ ap (λ x. spaces_after (if x then n + 1 else 0) (between bytes (stop_at bytes p) q)) (sym space)
    ∙ ap (λ (x : Point). spaces_after (if t then n + 1 else 0) (between bytes x q)) (sym there))

fewer : (p : Code → Bool) (cs : List Code) → length (filter p cs) ≤ length cs
fewer p [] = omega arith
fewer p (c ∷ cs) = let more = fewer p cs in by-first (p c) more
  where
    by-first : (b : Bool) → length (filter p cs) ≤ length cs →
        length (if b then c ∷ filter p cs else filter p cs) ≤ length (c ∷ cs)
    by-first true h = omega (arith, h)
    by-first false h = omega (arith, h)

-- a stretch has no more codes than the document
pub few-between : (bytes : List ℕ) (p q : Point) → length (between bytes p q) ≤ 4 * length bytes
unfolding between
few-between bytes p q =
    let some = fewer (is_code_before (place_of q)) (codes_after bytes (place_of p)) in
    let most = fewer (λ c. not (is_code_before (place_of p) c)) (codes_of bytes) in
    let all = document_few bytes in
    omega (arith, some, most, all)

pub counted-next : (bytes : List ℕ) (p q r : Point) (n : ℕ) → IsBegun bytes p q → r ≡ next_point bytes p →
    n + 1 + length (between bytes r q) ≡ n + length (between bytes p q)
counted-next bytes p q r n b e =
    let counts = one-fewer bytes p q r b e in omega (arith, counts)

all-first : (bytes : List ℕ) (p q : Point) (t : Bool) → IsBegun bytes p q → t ≡ at_real_space (value_from bytes p) p →
    list_all is_real_space (between bytes p q) ≡ t && list_all is_real_space (between bytes (stop_at bytes p) q)
all-first bytes p q t b e =
    ap (list_all is_real_space) b.codes ∙ ap (λ x. x && list_all is_real_space (between bytes (stop_at bytes p) q)) (sym (e ∙ ap (λ v. at_real_space v p) b.value))

pub all-next : (bytes : List ℕ) (p q r : Point) (t : Bool) → IsBegun bytes p q → r ≡ next_point bytes p →
    t ≡ at_real_space (value_from bytes p) p → t ≡ true →
    list_all is_real_space (between bytes r q) ≡ list_all is_real_space (between bytes p q)
all-next bytes p q r t b e f h =
    let there : r ≡ stop_at bytes p = e ∙ b.next in
    ap (λ (x : Point). list_all is_real_space (between bytes x q)) there
    ∙ sym (all-first bytes p q t b f ∙ ap (λ x. x && list_all is_real_space (between bytes (stop_at bytes p) q)) h)

pub all-stop : (bytes : List ℕ) (p q : Point) (t : Bool) → IsBegun bytes p q →
    t ≡ at_real_space (value_from bytes p) p → t ≡ false → list_all is_real_space (between bytes p q) ≡ false
all-stop bytes p q t b f h =
    all-first bytes p q t b f ∙ ap (λ x. x && list_all is_real_space (between bytes (stop_at bytes p) q)) h
