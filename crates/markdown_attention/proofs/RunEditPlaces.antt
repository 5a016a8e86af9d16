-- What the edits of runs collect at each place.
use Rattle.std.proofs.Common.{◌≡◌, ℕ, zero, suc, ◌+◌, ◌<◌, ◌≤◌, ◌==◌, ◌&&◌, Bool, true, false, if◌then◌else◌, List, ◌∷◌, ◌++◌, length, drop, refl, sym, ap, subst, ◌∙◌, arith, append-nil, inl, inr, []}
use Rattle.std.proofs.lemmas.Bool.{cases_Bool, ne_eqb, eq-eqb}
use Rattle.markdown_content.specs.declared.configuration.ParseOptions.{ParseOptions}
use Rattle.markdown_engine_events.specs.Edits.{removed_at, front_at, back_at, added_at}
use Rattle.markdown_event.specs.declared.event.Event.{Event}
use Rattle.markdown_engine_events.specs.declared.util.edit_map.Edit.{Edit}
use Rattle.markdown_attention.specs.NumberedPairs.{run_at}
use Rattle.markdown_attention.specs.RunsRead.{Container, opens_run, sequence_at, first_run, runs_from, Around, where_after, HaveRunPlaces}
use Rattle.markdown_attention.specs.declared.attention.runs.Sequence.{Sequence}
use Rattle.markdown_attention.specs.RunEdits.{edits_by}
use Rattle.markdown_attention.specs.TokenWord.{begins_run, IsPassLog}
use Rattle.markdown_content.specs.Codes.{Code}

zero-more : (n : ℕ) → 0 + n ≡ n
zero-more n = omega arith

no-front : (b : Bool) (xs : List Event) → (if b && false then xs else []) ≡ []
no-front true xs = refl
no-front false xs = refl

-- the events stand in order, from this one on
abbrev pub AreInOrderFrom : ℕ → List Sequence → Type 0
AreInOrderFrom n [] = Unit {0}
AreInOrderFrom n (r ∷ rs) = (n ≤ r.event) × AreInOrderFrom (r.event + 1) rs

from-less : (n m : ℕ) (rs : List Sequence) → m ≤ n → AreInOrderFrom n rs → AreInOrderFrom m rs
from-less n m [] l h = tt
from-less n m (r ∷ rs) l h = (let a = h.0 in omega (arith, a, l), h.1)

-- the first run, or one of those behind it
first-or : (g : ℕ) (r : Sequence) (rs : List Sequence) (n : ℕ) → r.number ≡ n →
    ((j : ℕ) → j < length rs → (run_at rs j).number ≡ n + 1 + j) → g < length (r ∷ rs) →
    (run_at (r ∷ rs) g).number ≡ n + g
first-or zero r rs n e h l = e ∙ omega arith
first-or (suc g) r rs n e h l = h g (omega (arith, l)) ∙ omega arith

module _ (comes : Sequence → List Event) where
  abbrev edits : List Sequence → List Edit
  edits rs = edits_by comes rs

  pub fronts-none : (k : ℕ) (rs : List Sequence) → front_at k (edits rs) ≡ []
  fronts-none k [] = refl
  fronts-none k (r ∷ rs) =
      ap (λ xs. xs ++ (if (r.event == k) && false then comes r else [])) (fronts-none k rs) ∙ no-front (r.event == k) (comes r)

  -- one edit more
  back-by : (k : ℕ) (r : Sequence) (rs : List Sequence) (b : Bool) → (r.event == k) ≡ b →
      back_at k (edits (r ∷ rs)) ≡ (if b then comes r else []) ++ back_at k (edits rs)
  back-by k r rs true e = ap (λ b. (if b && true then comes r else []) ++ back_at k (edits rs)) e
  back-by k r rs false e = ap (λ b. (if b && true then comes r else []) ++ back_at k (edits rs)) e

  removed-by : (k : ℕ) (r : Sequence) (rs : List Sequence) (b : Bool) → (r.event == k) ≡ b →
      removed_at k (edits (r ∷ rs)) ≡ (if b then 2 else 0) + removed_at k (edits rs)
  removed-by k r rs b e = ap (λ x. (if x then 2 else 0) + removed_at k (edits rs)) e

  back-below : (n k : ℕ) (rs : List Sequence) → AreInOrderFrom n rs → k < n → back_at k (edits rs) ≡ []
  back-below n k [] h l = refl
  back-below n k (r ∷ rs) h l =
      let a = h.0 in
      back-by k r rs false (ne_eqb r.event k (λ e. omega (arith, a, l, e))) ∙ back-below (r.event + 1) k rs h.1 (omega (arith, a, l))

  removed-below : (n k : ℕ) (rs : List Sequence) → AreInOrderFrom n rs → k < n → removed_at k (edits rs) ≡ 0
  removed-below n k [] h l = refl
  removed-below n k (r ∷ rs) h l =
      let a = h.0 in
      removed-by k r rs false (ne_eqb r.event k (λ e. omega (arith, a, l, e))) ∙ zero-more (removed_at k (edits rs)) ∙ removed-below (r.event + 1) k rs h.1 (omega (arith, a, l))

  -- at the event of a run
  pub back-run : (n k g : ℕ) (rs : List Sequence) → AreInOrderFrom n rs → g < length rs → (run_at rs g).event ≡ k →
      back_at k (edits rs) ≡ comes (run_at rs g)
  back-run n k g [] h l e = absurd (omega (arith, l))
  back-run n k zero (r ∷ rs) h l e = grind (arith, back-by, eq-eqb, back-below, append-nil)
  back-run n k (suc g) (r ∷ rs) h l e =
      let a : r.event + 1 ≤ k = at-least (r.event + 1) k g rs h.1 (omega (arith, l)) e in
      back-by k r rs false (ne_eqb r.event k (λ x. omega (arith, a, x))) ∙ back-run (r.event + 1) k g rs h.1 (omega (arith, l)) e
    where
      at-least : (n k g : ℕ) (rs : List Sequence) → AreInOrderFrom n rs → g < length rs → (run_at rs g).event ≡ k → n ≤ k
      at-least n k g [] h l e = absurd (omega (arith, l))
      at-least n k zero (r ∷ rs) h l e = let a = h.0 in omega (arith, a, e)
      at-least n k (suc g) (r ∷ rs) h l e =
          let a = h.0 in let b = at-least (r.event + 1) k g rs h.1 (omega (arith, l)) e in omega (arith, a, b)

  pub added-run : (n g : ℕ) (rs : List Sequence) → AreInOrderFrom n rs → g < length rs →
      added_at (run_at rs g).event (edits rs) ≡ comes (run_at rs g)
  added-run n g rs h l =
      ap (λ xs. xs ++ back_at (run_at rs g).event (edits rs)) (fronts-none (run_at rs g).event rs) ∙ back-run n (run_at rs g).event g rs h l refl

  -- By the events.

  module _ (options : ParseOptions) (bytes : List ℕ) (content : List Code) where
    abbrev from : ℕ → ℕ → Around → List Event → List Sequence
    from n i w es = runs_from options bytes content n i w es

    -- the run that begins at the first event, or none
    record Begun (n i : ℕ) (c : Container) (e : Event) (es : List Event) : Type 0 where
      run : Sequence
      event : run.event ≡ i
      number : run.number ≡ n
      is : first_run options bytes content n i c (e ∷ es) ≡ run ∷ []

    begun : (n i : ℕ) (c : Container) (e : Event) (es : List Event) → HaveRunPlaces bytes (e ∷ es) →
        opens_run e ≡ true → Begun n i c e es
    begun n i c e [] h o = absurd (h.0 o)
    begun n i c e (x ∷ es) h o =
        record { run = sequence_at options bytes content n i c e.point x.point; event = refl; number = refl; is = ap (λ b. if b then sequence_at options bytes content n i c e.point x.point ∷ [] else []) o }

    none-begun : (n i : ℕ) (c : Container) (e : Event) (es : List Event) → opens_run e ≡ false →
        first_run options bytes content n i c (e ∷ es) ≡ []
    none-begun n i c e [] o = refl
    none-begun n i c e (x ∷ es) o = ap (λ b. if b then sequence_at options bytes content n i c e.point x.point ∷ [] else []) o

    abbrev rest_from : ℕ → ℕ → Around → Event → List Event → List Sequence
    rest_from n i w e es =
        from (n + length (first_run options bytes content n i w.container (e ∷ es))) (suc i) (where_after i e w) es

    pub are-from : (es : List Event) (n i : ℕ) (w : Around) → HaveRunPlaces bytes es → AreInOrderFrom i (from n i w es)
    are-from [] n i w h = tt
    are-from (e ∷ es) n i w h =
        let rest : List Sequence = rest_from n i w e es in
        let later : AreInOrderFrom (suc i) rest = are-from es (n + length (first_run options bytes content n i w.container (e ∷ es))) (suc i) (where_after i e w) h.1 in
        elim (cases_Bool (opens_run e)) [
          | inl o ↦
              let b = begun n i w.container e es h o in
              let at = b.event in
              let one : suc i ≡ b.run.event + 1 = omega (arith, at) in
              subst (λ (xs : List Sequence). AreInOrderFrom i (xs ++ rest)) (sym b.is) (omega (arith, at), subst (λ (k : ℕ). AreInOrderFrom k rest) one later)
          | inr o ↦ subst (λ (xs : List Sequence). AreInOrderFrom i (xs ++ rest)) (sym (none-begun n i w.container e es o)) (from-less (suc i) i rest (omega arith) later)
        ]

    removed-place : (es : List Event) (n i : ℕ) (w : Around) (k j : ℕ) → k ≡ i + j → HaveRunPlaces bytes es →
        removed_at k (edits (from n i w es)) ≡ (if begins_run (drop j es) then 2 else 0)
    removed-place [] n i w k zero e h = refl
    removed-place [] n i w k (suc j) e h = refl
    removed-place (x ∷ es) n i w k zero e h =
        let rest : List Sequence = rest_from n i w x es in
        let later : AreInOrderFrom (suc i) rest = are-from es (n + length (first_run options bytes content n i w.container (x ∷ es))) (suc i) (where_after i x w) h.1 in
        let none : removed_at k (edits rest) ≡ 0 = removed-below (suc i) k rest later (omega (arith, e)) in
        elim (cases_Bool (opens_run x)) [
          | inl o ↦
              let b = begun n i w.container x es h o in
              ap (λ xs. removed_at k (edits (xs ++ rest))) b.is
              ∙ removed-by k b.run rest true (let at = b.event in eq-eqb b.run.event k (omega (arith, at, e)))
              ∙ ap (λ m. 2 + m) none
              ∙ ap (λ b. if b then 2 else 0) (sym o)
          | inr o ↦ ap (λ xs. removed_at k (edits (xs ++ rest))) (none-begun n i w.container x es o) ∙ none ∙ ap (λ b. if b then 2 else 0) (sym o)
        ]
    removed-place (x ∷ es) n i w k (suc j) e h =
        let rest : List Sequence = rest_from n i w x es in
        let ih : removed_at k (edits rest) ≡ (if begins_run (drop j es) then 2 else 0) =
        removed-place es (n + length (first_run options bytes content n i w.container (x ∷ es))) (suc i) (where_after i x w) k j (omega (arith, e)) h.1 in
        elim (cases_Bool (opens_run x)) [
          | inl o ↦
              let b = begun n i w.container x es h o in
              ap (λ xs. removed_at k (edits (xs ++ rest))) b.is
              ∙ removed-by k b.run rest false (let at = b.event in ne_eqb b.run.event k (λ y. omega (arith, at, e, y)))
              ∙ zero-more (removed_at k (edits rest))
              ∙ ih
          | inr o ↦ ap (λ xs. removed_at k (edits (xs ++ rest))) (none-begun n i w.container x es o) ∙ ih
        ]

    back-place : (es : List Event) (n i : ℕ) (w : Around) (k j : ℕ) → k ≡ i + j → HaveRunPlaces bytes es →
        begins_run (drop j es) ≡ false → back_at k (edits (from n i w es)) ≡ []
    back-place [] n i w k j e h f = refl
    back-place (x ∷ es) n i w k zero e h f =
        let rest : List Sequence = rest_from n i w x es in
        let later : AreInOrderFrom (suc i) rest = are-from es (n + length (first_run options bytes content n i w.container (x ∷ es))) (suc i) (where_after i x w) h.1 in
        ap (λ xs. back_at k (edits (xs ++ rest))) (none-begun n i w.container x es f) ∙ back-below (suc i) k rest later (omega (arith, e))
    back-place (x ∷ es) n i w k (suc j) e h f =
        let rest : List Sequence = rest_from n i w x es in
        let ih : back_at k (edits rest) ≡ [] =
        back-place es (n + length (first_run options bytes content n i w.container (x ∷ es))) (suc i) (where_after i x w) k j (omega (arith, e)) h.1 f in
        elim (cases_Bool (opens_run x)) [
          | inl o ↦ grind (arith, begun, back-by, ne_eqb)
          | inr o ↦ ap (λ xs. back_at k (edits (xs ++ rest))) (none-begun n i w.container x es o) ∙ ih
        ]

    -- the edits of these events' runs: one for each run, at its Enter
    pub pass-log : (es : List Event) (w : Around) → HaveRunPlaces bytes es →
        IsPassLog es (edits (from 0 0 w es)) (λ k. added_at k (edits (from 0 0 w es)))
    pass-log es w h = grind (arith, removed-place, fronts-none, back-place)

    pub numbered : (es : List Event) (n i : ℕ) (w : Around) (g : ℕ) → HaveRunPlaces bytes es →
        g < length (from n i w es) → (run_at (from n i w es) g).number ≡ n + g
    numbered [] n i w g h l = absurd (omega (arith, l))
    numbered (e ∷ es) n i w g h l =
        let rest : List Sequence = rest_from n i w e es in
        let ih = numbered es (n + length (first_run options bytes content n i w.container (e ∷ es))) (suc i) (where_after i e w) in
        elim (cases_Bool (opens_run e)) [
          | inl o ↦ grind (arith, begun, first-or)
          | inr o ↦ grind (arith, none-begun)
        ]
