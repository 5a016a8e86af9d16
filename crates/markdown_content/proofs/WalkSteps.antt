-- One step of a walk toward a place.
use Rattle.std.proofs.Common.{ℕ, ◌+◌, ◌-◌, ◌*◌, ◌<◌, ◌≤◌, Bool, true, false, not, ◌&&◌, ◌==◌, ◌≡◌, arith, List, length, sym, subst, ◌∙◌, IsTrue, inl, inr}
use Rattle.std.proofs.lemmas.Bool.{cases_Bool, not-true, not_from_false}
use Rattle.std.proofs.lemmas.Bool.Decides.{nat_tests}
use Rattle.markdown_event.specs.declared.event.Point.{Point}
use Rattle.markdown_content.specs.Codes.{place_of, is_at_or_after}
use Rattle.markdown_content.specs.Content.{is_place}
use Rattle.markdown_content.specs.DocumentWalk.{IsPoint, next_point}
use Rattle.markdown_content.proofs.PlaceOrder.{is_before, at_or_after-is, same_place}
use Rattle.markdown_content.proofs.DocumentCodes.{stop_at}
use Rattle.markdown_content.proofs.DocumentWalkLemmas.{few-end}
use Rattle.markdown_content.proofs.DocumentPlaces.{stands-point, there, toward, IsToward}

-- how far a place is from the end of its document, in codes at most
abbrev pub codes_left_at : List ℕ → Point → ℕ
codes_left_at bytes p = 4 * length bytes - (4 * p.index + p.vs)

pub record IsStride (bytes : List ℕ) (p q : Point) (at : ℕ × ℕ) : Type 0 where
  pub in_bytes : p.index < length bytes
  pub point : IsPoint bytes q
  pub forward : IsTrue (is_at_or_after (place_of q) at)
  pub less : codes_left_at bytes q < codes_left_at bytes p

pub not_past : (x at : ℕ × ℕ) → IsTrue (is_at_or_after x at) → is_before at x ≡ false
not_past x at h = not-true (is_before at x) (sym (at_or_after-is x at) ∙ h)

pub not_past-back : (x at : ℕ × ℕ) → is_before at x ≡ false → IsTrue (is_at_or_after x at)
not_past-back x at h = at_or_after-is x at ∙ not_from_false (is_before at x) h

pub few-less : (a b n : ℕ) → 0 + a + b ≤ n → a + b ≤ n
few-less a b n h = omega arith

pub falls : (n a b : ℕ) → a + 1 ≤ b → b ≤ n → n - b < n - a
falls n a b h k = omega arith

stride-next : (bytes : List ℕ) (p : Point) (at : ℕ × ℕ) → IsToward bytes p at → IsStride bytes p (stop_at bytes p) at
stride-next bytes p at t =
    let q : Point = stop_at bytes p in
    let few : 0 + 4 * q.index + q.vs ≤ 4 * length bytes = few-end bytes q (stands-point bytes q t.next.point) in
    record {
      in_bytes = t.in_bytes;
      point = t.next.point;
      forward = not_past-back (place_of q) at t.reached;
      less = falls (4 * length bytes) (4 * p.index + p.vs) (4 * q.index + q.vs) t.next.counts (few-less (4 * q.index) q.vs (4 * length bytes) few);
    }

pub stride_before : (bytes : List ℕ) (p : Point) (at : ℕ × ℕ) → IsPoint bytes p → IsTrue (is_place bytes at) →
    is_before (place_of p) at ≡ true → IsStride bytes p (next_point bytes p) at
stride_before bytes p at h place before =
    let t : IsToward bytes p at = toward bytes p at h (there bytes at place) before in
    subst (λ (x : Point). IsStride bytes p x at) (sym t.next.next) (stride-next bytes p at t)

-- toward a place that is not reached yet
pub stride : (bytes : List ℕ) (p : Point) (at : ℕ × ℕ) → IsPoint bytes p → IsTrue (is_place bytes at) →
    IsTrue (is_at_or_after (place_of p) at) → ((p.index ≡ at.0) × (p.vs ≡ at.1) → ⊥) →
    IsStride bytes p (next_point bytes p) at
stride bytes p at h place forward other =
    elim (cases_Bool (is_before (place_of p) at)) [
      | inl k ↦ stride_before bytes p at h place k
      | inr k ↦ absurd (other (same_place (place_of p) at k (not_past (place_of p) at forward)))
    ]

not_at : (a b c d : ℕ) (r : Bool) → r ≡ not (a == c && b == d) → r ≡ true → (a ≡ c) × (b ≡ d) → ⊥
not_at a b c d r e h k = grind (arith, nat_tests)

-- the same by the test of a loop
pub stride_test : (bytes : List ℕ) (p q : Point) (at : ℕ × ℕ) (r : Bool) →
    IsPoint bytes p × IsTrue (is_at_or_after (place_of p) at) → IsTrue (is_place bytes at) →
    r ≡ not (p.index == at.0 && p.vs == at.1) → r ≡ true → q ≡ next_point bytes p → IsStride bytes p q at
stride_test bytes p q at r h place e t is =
    subst (λ (x : Point). IsStride bytes p x at) (sym is) (stride bytes p at h.0 place h.1 (not_at p.index p.vs at.0 at.1 r e t))
