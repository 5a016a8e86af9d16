-- Open events, one event further.
use Rattle.std.proofs.Common.{◌≡◌, ℕ, zero, suc, ◌+◌, ◌-◌, ◌<◌, ◌≤◌, ◌⊎◌, inl, inr, ◌||◌, Bool, true, false, Option, Some, None, List, [], ◌∷◌, ◌++◌, length, take, get_or, slice_get, IsSome, refl, sym, ap, subst, ◌∙◌, arith}
use Rattle.std.specs.Option.{option_map}
use Rattle.std.proofs.lemmas.List.{take_more, length-take-le}
use Rattle.std.proofs.lemmas.Option.{slice_get-get_or, get_or_from_slice_get}
use Rattle.std.proofs.lemmas.Bool.Decides.{eqb_tells, leb_tells}
use Rattle.markdown_event.specs.declared.event.Event.{Event}
use Rattle.markdown_event.specs.declared.event.Kind.TheVariants.{Enter, Exit}
use Rattle.markdown_event.specs.declared.event.Name.{Name}
use Rattle.markdown_event.specs.contracts.event.Name.{the_type}
use Rattle.std.specs.List.{list_any, Contains}
use Rattle.std.proofs.lemmas.Bool.{false≢true, or_right}
use denote.Enum.Bare.{sameb, same_true, true_same}
use Rattle.markdown_content.specs.Nesting.{outer, opened, open_after, open_before, point_at, IsNamed, IsNamedBack}

open_after-push : (n : ℕ) (o : List ℕ) (es : List Event) (e : Event) →
    open_after n o (es ++ e ∷ []) ≡ opened (n + length es) e.kind (open_after n o es)
open_after-push n o [] e = ap (λ m. opened m e.kind o) (omega arith)
open_after-push n o (x ∷ es) e =
    open_after-push (suc n) (opened n x.kind o) es e ∙ ap (λ m. opened m e.kind (open_after (suc n) (opened n x.kind o) es)) (omega arith)

-- the open events before the next event
pub open_before-more : (es : List Event) (i : ℕ) (x : Event) → i < length es →
    open_before es (i + 1) ≡ opened i (get_or es i x).kind (open_before es i)
open_before-more es i x l =
    let cut : take (i + 1) es ≡ take i es ++ get_or es i x ∷ [] = take_more es i x l in
    let size : 0 + length (take i es) ≡ i = omega (arith, length-take-le i es (omega arith)) in
    ap (open_after 0 []) cut ∙ open_after-push 0 [] (take i es) (get_or es i x) ∙ ap (λ m. opened m (get_or es i x).kind (open_before es i)) size

-- the Enter that is reached when so many are still to come, walking back from event i
abbrev pub reached : ℕ → List Event → ℕ → Option ℕ
reached zero es i = Some i
reached (suc d) es i = slice_get (open_before es i) d

past-outer : (o : List ℕ) (d : ℕ) → slice_get (outer o) d ≡ slice_get o (suc d)
past-outer [] d = refl
past-outer (x ∷ o) d = refl

past-enter : (i d : ℕ) (es : List Event) → slice_get (i ∷ open_before es i) d ≡ reached d es i
past-enter i zero es = refl
past-enter i (suc d) es = refl

reached-enter : (es : List Event) (i d : ℕ) (x : Event) → i < length es → (get_or es i x).kind ≡ Enter →
    reached (suc d) es (i + 1) ≡ reached d es i
reached-enter es i d x l k =
    ap (λ o. slice_get o d) (open_before-more es i x l) ∙ ap (λ y. slice_get (opened i y (open_before es i)) d) k ∙ past-enter i d es

reached-exit : (es : List Event) (i d : ℕ) (x : Event) → i < length es → (get_or es i x).kind ≡ Exit →
    reached (suc d) es (i + 1) ≡ reached (suc (suc d)) es i
reached-exit es i d x l k =
    ap (λ o. slice_get o d) (open_before-more es i x l) ∙ ap (λ y. slice_get (opened i y (open_before es i)) d) k ∙ past-outer (open_before es i) d

none-some : {A : Type 0} → (o : Option A) → o ≡ None → IsSome o → ⊥
none-some {A = A} o h s = let P : Option A → Type 0 = λ x. IsSome x in false≢true (subst P h s)

-- while an Enter is to come there are events before
pub reached-start : (es : List Event) (i w : ℕ) (o : Option ℕ) → reached w es i ≡ o → IsSome o → 0 < w → 0 < i
reached-start es zero zero o h s l = absurd (omega arith)
reached-start es zero (suc w) o h s l = absurd (none-some o (sym h) s)
reached-start es (suc i) w o h s l = omega arith

-- a step back over an Enter, and over an Exit
pub reached-past_enter : (es : List Event) (i w : ℕ) (x : Event) (o : Option ℕ) → reached w es i ≡ o → 0 < w → 0 < i →
    i ≤ length es → (get_or es (i - 1) x).kind ≡ Enter → reached (w - 1) es (i - 1) ≡ o
reached-past_enter es i w x o h l m b k = grind (arith, reached-enter)

pub reached-past_exit : (es : List Event) (i w : ℕ) (x : Event) (o : Option ℕ) → reached w es i ≡ o → 0 < w → 0 < i →
    i ≤ length es → (get_or es (i - 1) x).kind ≡ Exit → reached (w + 1) es (i - 1) ≡ o
reached-past_exit es i w x o h l m b k = grind (arith, reached-exit)

pub reached-end : (es : List Event) (i w : ℕ) (o : Option ℕ) → reached w es i ≡ o → w ≤ 0 → o ≡ Some i
reached-end es i zero o h l = sym h
reached-end es i (suc w) o h l = absurd (omega arith)

pub point-read : (es : List Event) (i : ℕ) (x : Event) → i < length es → point_at es i ≡ Some (get_or es i x).point
point-read es i x l = ap (option_map (λ (y : Event). y.point)) (slice_get-get_or es i x l)

-- names

abbrev same_name : Name → Name → Bool
same_name a b = sameb the_type a b

pub Contains-any : (ns : List Name) (n : Name) → list_any (λ y. same_name y n) ns ≡ true → Contains ns n
Contains-any [] n h = absurd (false≢true h)
Contains-any (m ∷ ns) n h =
    elim (or-cases (same_name m n) (list_any (λ y. same_name y n) ns) h) [
      | inl a ↦ (0, omega arith, same_true the_type tt m n a)
      | inr b ↦ let t = Contains-any ns n b in (suc t.0, omega arith, t.2)
    ]
  where
    or-cases : (a b : Bool) → (a || b) ≡ true → (a ≡ true) ⊎ (b ≡ true)
    or-cases true b h = inl refl
    or-cases false b h = inr h

pub any-Contains : (ns : List Name) (n : Name) → Contains ns n → list_any (λ y. same_name y n) ns ≡ true
any-Contains ns n h = any-at ns n h.0 h.1 h.2
  where
    any-at : (ns : List Name) (n : Name) (k : ℕ) → k < length ns → get_or ns k n ≡ n →
        list_any (λ y. same_name y n) ns ≡ true
    any-at [] n k l e = absurd (omega arith)
    any-at (m ∷ ns) n zero l e = rw (true_same the_type m n e) refl
    any-at (m ∷ ns) n (suc k) l e =
        or_right (same_name m n) (list_any (λ y. same_name y n) ns) (any-at ns n k (omega arith) e)

pub named-at : (names : List Name) (es : List Event) (i : ℕ) (x : Event) → i < length es → IsNamed names es i →
    Contains names (get_or es i x).name
named-at names es i x l h =
    subst (λ (e : Event). Contains names e.name) (sym (get_or_from_slice_get es i h.0 x h.1.0)) h.1.1

pub named-from : (names : List Name) (es : List Event) (i : ℕ) (x : Event) → i < length es →
    Contains names (get_or es i x).name → IsNamed names es i
named-from names es i x l h = (get_or es i x, (slice_get-get_or es i x l, h))

-- while no name is found from `at` on, there are events before
pub named-below : (names : List Name) (es : List Event) (i k : ℕ) → ((j : ℕ) → k < j → j ≤ i → IsNamed names es j → ⊥) →
    (IsNamed names es k → ⊥) → IsNamedBack names es i → 0 < k
named-below names es i k above here some =
    elim (leb_tells some.0 k) [
      | inl l ↦ elim (eqb_tells some.0 k) [
        | inl t ↦ absurd (here (subst (λ n. IsNamed names es n) t.1 some.1.1))
        | inr f ↦ omega arith
      ]
      | inr g ↦ absurd (above some.0 g.1 some.1.0 some.1.1)
    ]

pub none-further : (names : List Name) (es : List Event) (i k : ℕ) →
    ((j : ℕ) → k < j → j ≤ i → IsNamed names es j → ⊥) → (IsNamed names es k → ⊥) → (j : ℕ) → k - 1 < j → j ≤ i →
    IsNamed names es j → ⊥
none-further names es i k above here j l m h =
    elim (eqb_tells j k) [
      | inl t ↦ here (subst (λ n. IsNamed names es n) t.1 h)
      | inr f ↦ above j (omega arith) m h
    ]
