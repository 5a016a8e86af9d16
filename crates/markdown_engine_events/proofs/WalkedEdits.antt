-- Edits of two events each, which a walk over a list makes: what they collect at each place, and when they can be made.
use Rattle.std.proofs.Common.{◌≡◌, ℕ, zero, suc, ◌+◌, ◌<◌, ◌≤◌, ◌==◌, ◌&&◌, Bool, true, false, List, [], ◌∷◌, ◌++◌, length, drop, if◌then◌else◌, refl, sym, ap, ◌∙◌, arith, append-nil}
use Rattle.std.proofs.lemmas.Bool.{eq-eqb, ne_eqb}
use Rattle.std.proofs.lemmas.List.Elements.{All-nil, All-cons}
use Rattle.std.specs.List.{All}
use Rattle.markdown_event.specs.declared.event.Event.{Event}
use Rattle.markdown_engine_events.specs.declared.util.edit_map.Edit.{Edit}
use Rattle.markdown_engine_events.specs.Edits.{removed_at, front_at, back_at, CanEdit}
use Rattle.markdown_engine_events.proofs.EditSteps.{AreOfTwo, TwoGoUnlinked, goes-unlinked}

-- the edit of event n and the next, or none
abbrev edit_if : Bool → ℕ → List Event → List Edit
edit_if b n xs = if b then record { at = n; remove = 2; events = xs; before = false } ∷ [] else []

abbrev events_if : Bool → List Event → List Event
events_if b xs = if b then xs else []

abbrev two_if : Bool → ℕ
two_if b = if b then 2 else 0

front-by : (i n : ℕ) (xs : List Event) (log : List Edit) (b : Bool) → front_at i log ≡ [] → front_at i (edit_if b n xs ++ log) ≡ []
front-by i n xs log true h = ap (λ ys. ys ++ events_if (n == i && false) xs) h ∙ none (n == i)
  where
    none : (c : Bool) → events_if (c && false) xs ≡ []
    none true = refl
    none false = refl
front-by i n xs log false h = h

-- at another place
back-other : (i n : ℕ) (xs : List Event) (log : List Edit) (b : Bool) → (n == i) ≡ false → back_at i (edit_if b n xs ++ log) ≡ back_at i log
back-other i n xs log true h = ap (λ c. events_if (c && true) xs ++ back_at i log) h
back-other i n xs log false h = refl

removed-other : (i n : ℕ) (xs : List Event) (log : List Edit) (b : Bool) → (n == i) ≡ false → removed_at i (edit_if b n xs ++ log) ≡ removed_at i log
removed-other i n xs log true h = ap (λ c. two_if c + removed_at i log) h ∙ omega arith
removed-other i n xs log false h = refl

-- at its own, where later ones make no edit
back-own : (i n : ℕ) (xs : List Event) (log : List Edit) (b : Bool) → (n == i) ≡ true → back_at i log ≡ [] → back_at i (edit_if b n xs ++ log) ≡ events_if b xs
back-own i n xs log true h k = ap (λ c. events_if (c && true) xs ++ back_at i log) h ∙ ap (λ ys. xs ++ ys) k ∙ append-nil xs
back-own i n xs log false h k = k

removed-own : (i n : ℕ) (xs : List Event) (log : List Edit) (b : Bool) → (n == i) ≡ true → removed_at i log ≡ 0 → removed_at i (edit_if b n xs ++ log) ≡ two_if b
removed-own i n xs log true h k = ap (λ c. two_if c + removed_at i log) h ∙ omega (arith, k)
removed-own i n xs log false h k = k

within-by : (n m : ℕ) (xs : List Event) (log : List Edit) (b : Bool) → n ≤ m → All (λ d. d.at ≤ m) log → All (λ d. d.at ≤ m) (edit_if b n xs ++ log)
within-by n m xs log true h a =
    All-cons (λ d. d.at ≤ m) (record { at = n; remove = 2; events = xs; before = false }) log h a
within-by n m xs log false h a = a

-- The walk has a state, which `next` gives behind an event. The two events that a list begins with go where `begins` says so.
module _ {S : Type 0} (next : S → Event → S) (begins : S → List Event → Bool) (comes : S → List Event → List Event) (none : (s : S) → begins s [] ≡ false) where
  abbrev pub walked : ℕ → S → List Event → List Edit
  walked n s [] = []
  walked n s (e ∷ es) = edit_if (begins s (e ∷ es)) n (comes s (e ∷ es)) ++ walked (suc n) (next s e) es

  -- the state before event k
  abbrev pub state_at : ℕ → S → List Event → S
  state_at zero s es = s
  state_at (suc k) s [] = s
  state_at (suc k) s (e ∷ es) = state_at k (next s e) es

  abbrev pub begins_at : S → List Event → ℕ → Bool
  begins_at s es k = begins (state_at k s es) (drop k es)

  abbrev pub comes_at : S → List Event → ℕ → List Event
  comes_at s es k = comes (state_at k s es) (drop k es)

  state-after : (n : ℕ) (s : S) (es : List Event) (e : Event) (rest : List Event) → drop n es ≡ e ∷ rest →
      state_at (suc n) s es ≡ next (state_at n s es) e
  state-after zero s [] e rest h = cc
  state-after zero s (x ∷ es) e rest h = ap first_next h
    where
      first_next : List Event → S
      first_next [] = s
      first_next (y ∷ ys) = next s y
  state-after (suc n) s [] e rest h = cc
  state-after (suc n) s (x ∷ es) e rest h = state-after n (next s x) es e rest h

  -- the state behind an event
  pub state-next : (n : ℕ) (s : S) (es : List Event) (e : Event) (rest : List Event) → drop n es ≡ e ∷ rest →
      state_at (n + 1) s es ≡ next (state_at n s es) e
  state-next n s es e rest h = let one : n + 1 ≡ suc n = omega arith in ap (λ i. state_at i s es) one ∙ state-after n s es e rest h

  -- What they collect at each place.

  front-none : (i n : ℕ) (s : S) (es : List Event) → front_at i (walked n s es) ≡ []
  front-none i n s [] = refl
  front-none i n s (e ∷ es) =
      front-by i n (comes s (e ∷ es)) (walked (suc n) (next s e) es) (begins s (e ∷ es)) (front-none i (suc n) (next s e) es)

  back-earlier : (i n : ℕ) (s : S) (es : List Event) → i < n → back_at i (walked n s es) ≡ []
  back-earlier i n s [] l = refl
  back-earlier i n s (e ∷ es) l =
      back-other i n (comes s (e ∷ es)) (walked (suc n) (next s e) es) (begins s (e ∷ es)) (ne_eqb n i (λ h. omega (arith, h)))
      ∙ back-earlier i (suc n) (next s e) es (omega arith)

  removed-earlier : (i n : ℕ) (s : S) (es : List Event) → i < n → removed_at i (walked n s es) ≡ 0
  removed-earlier i n s [] l = refl
  removed-earlier i n s (e ∷ es) l =
      removed-other i n (comes s (e ∷ es)) (walked (suc n) (next s e) es) (begins s (e ∷ es)) (ne_eqb n i (λ h. omega (arith, h)))
      ∙ removed-earlier i (suc n) (next s e) es (omega arith)

  back-place : (i n k : ℕ) (s : S) (es : List Event) → i ≡ n + k →
      back_at i (walked n s es) ≡ events_if (begins_at s es k) (comes_at s es k)
  back-place i n zero s [] e = ap (λ b. events_if b (comes s [])) (sym (none s))
  back-place i n (suc k) s [] e = ap (λ b. events_if b (comes s [])) (sym (none s))
  back-place i n zero s (x ∷ es) e =
      back-own i n (comes s (x ∷ es)) (walked (suc n) (next s x) es) (begins s (x ∷ es)) (eq-eqb n i (omega (arith, e))) (back-earlier i (suc n) (next s x) es (omega (arith, e)))
  back-place i n (suc k) s (x ∷ es) e =
      back-other i n (comes s (x ∷ es)) (walked (suc n) (next s x) es) (begins s (x ∷ es)) (ne_eqb n i (λ h. omega (arith, e, h)))
      ∙ back-place i (suc n) k (next s x) es (omega (arith, e))

  removed-place : (i n k : ℕ) (s : S) (es : List Event) → i ≡ n + k → removed_at i (walked n s es) ≡ two_if (begins_at s es k)
  removed-place i n zero s [] e = ap two_if (sym (none s))
  removed-place i n (suc k) s [] e = ap two_if (sym (none s))
  removed-place i n zero s (x ∷ es) e =
      removed-own i n (comes s (x ∷ es)) (walked (suc n) (next s x) es) (begins s (x ∷ es)) (eq-eqb n i (omega (arith, e))) (removed-earlier i (suc n) (next s x) es (omega (arith, e)))
  removed-place i n (suc k) s (x ∷ es) e =
      removed-other i n (comes s (x ∷ es)) (walked (suc n) (next s x) es) (begins s (x ∷ es)) (ne_eqb n i (λ h. omega (arith, e, h)))
      ∙ removed-place i (suc n) k (next s x) es (omega (arith, e))

  pub of-two : (s : S) (es : List Event) → AreOfTwo (walked 0 s es) (begins_at s es) (comes_at s es)
  of-two s es = grind (arith, front-none, back-place, removed-place)

  -- When they can be made.

  within : (n m : ℕ) (s : S) (es : List Event) → n + length es ≤ m → All (λ d. d.at ≤ m) (walked n s es)
  within n m s [] h = All-nil (λ d. d.at ≤ m)
  within n m s (e ∷ es) h =
      within-by n m (comes s (e ∷ es)) (walked (suc n) (next s e) es) (begins s (e ∷ es)) (omega arith) (within (suc n) m (next s e) es (omega arith))

  pub can-walk : (s : S) (es : List Event) → TwoGoUnlinked es (begins_at s es) → CanEdit (walked 0 s es) es
  can-walk s es h = record {
    places = within 0 (length es) s es (omega arith);
    unlinked = goes-unlinked (walked 0 s es) (begins_at s es) (comes_at s es) (of-two s es) es h;
  }
