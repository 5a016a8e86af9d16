-- How many codes of a content are among some bytes.
use Rattle.std.proofs.Common.{◌≡◌, ℕ, ◌+◌, ◌-◌, ◌<◌, ◌==◌, nat_le, Bool, true, false, cond, Some, None, List, refl, sym, ap, subst, ◌∙◌, arith}
use Rattle.std.specs.List.{list_any}
use Rattle.std.proofs.lemmas.Bool.Decides.{nat_tests}
use Rattle.std.proofs.lemmas.Grind.{common_steps}
use Rattle.std.proofs.lemmas.List.Sums.{sum_by-cons}
use Rattle.markdown_content.specs.Codes.{Code, count_among}
use Rattle.markdown_content.specs.Place.{Place, ahead_at, moved, code_at}
use Rattle.markdown_content.specs.Stretch.{past_stretch}
use Rattle.markdown_content.proofs.PlaceRules.{IsAhead, ahead_some, ahead_none}
use Rattle.markdown_content.proofs.StretchLemmas.{kept}

-- so many of these codes are still to be found from a place on
abbrev pub AreLeftToFind : List ℕ → ℕ → List Code → ℕ → Place → Type 0
AreLeftToFind set times cs left p = nat_le times (count_among set cs) ≡ nat_le left (count_among set (ahead_at p))

pub left-start : (set : List ℕ) (times : ℕ) (p q : Place) → q ≡ record p { at = 0 } → AreLeftToFind set times p.codes times q
unfolding ahead_at
left-start set times p q e = ap (λ (x : Place). nat_le times (count_among set (ahead_at x))) (sym e)

count-here : (set : List ℕ) (w : ℕ) (p : Place) (b : Bool) → code_at p ≡ Some w → list_any (λ n. w == n) set ≡ b →
    count_among set (ahead_at p) ≡ cond b 1 0 + count_among set (ahead_at (moved p))
count-here set w p b h e =
    let a : IsAhead p w = ahead_some p w h in
    let rest : ℕ = count_among set (ahead_at (moved p)) in
    ap (count_among set) a.codes ∙ sum_by-cons (λ (c : Code). cond (list_any (λ n. c.value == n) set) 1 0) a.code (ahead_at (moved p)) ∙ ap (λ x. cond (list_any (λ n. x == n) set) 1 0 + rest) a.value ∙ ap (λ x. cond x 1 0 + rest) e

pub left-one : (set : List ℕ) (times : ℕ) (cs : List Code) (left w : ℕ) (p q : Place) → AreLeftToFind set times cs left p →
    0 < left → code_at p ≡ Some w → list_any (λ n. w == n) set ≡ true → q ≡ moved p → AreLeftToFind set times cs (left - 1) q
left-one set times cs left w p q k some h e f =
    k
    ∙ ap (nat_le left) (count-here set w p true h e)
    ∙ fewer left (count_among set (ahead_at (moved p))) some
    ∙ ap (λ (x : Place). nat_le (left - 1) (count_among set (ahead_at x))) (sym f)
  where
    fewer : (n m : ℕ) → 0 < n → nat_le n (1 + m) ≡ nat_le (n - 1) m
    fewer n m h = grind (arith, nat_tests, common_steps, h)

pub left-other : (set : List ℕ) (times : ℕ) (cs : List Code) (left w : ℕ) (p q : Place) → AreLeftToFind set times cs left p →
    code_at p ≡ Some w → list_any (λ n. w == n) set ≡ false → q ≡ moved p → AreLeftToFind set times cs left q
left-other set times cs left w p q k h e f =
    k
    ∙ ap (nat_le left) (count-here set w p false h e ∙ none-more (count_among set (ahead_at (moved p))))
    ∙ ap (λ (x : Place). nat_le left (count_among set (ahead_at x))) (sym f)
  where
    none-more : (m : ℕ) → 0 + m ≡ m
    none-more m = omega arith

-- past a stretch of other codes
pub left-stretch : (set : List ℕ) (times : ℕ) (cs : List Code) (left : ℕ) (p q : Place) → q ≡ past_stretch set p →
    AreLeftToFind set times cs left p → AreLeftToFind set times cs left q
left-stretch set times cs left p q e k =
    subst (λ (x : Place). AreLeftToFind set times cs left x) (sym e)
    (kept set (λ x. AreLeftToFind set times cs left x) (λ x w h ending free k. left-other set times cs left w x (moved x) k h free refl) p k)

pub left-none : (set : List ℕ) (times : ℕ) (cs : List Code) (left : ℕ) (p : Place) → AreLeftToFind set times cs left p →
    0 < left → code_at p ≡ None → false ≡ nat_le times (count_among set cs)
left-none set times cs left p k some h = sym (k ∙ ap (λ xs. nat_le left (count_among set xs)) (ahead_none p h) ∙ never left some)
  where
    never : (n : ℕ) → 0 < n → nat_le n 0 ≡ false
    never n h = grind (arith, nat_tests, common_steps, h)
