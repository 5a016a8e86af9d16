-- There is room for what comes for each run.
use Rattle.std.proofs.Common.{◌≡◌, ℕ, zero, suc, ◌+◌, ◌-◌, ◌^◌, ◌<◌, Bool, true, false, if◌then◌else◌, List, [], ◌∷◌, ◌++◌, length, sym, ap, subst, ◌∙◌, arith, inl, inr}
use Rattle.std.proofs.lemmas.Bool.{cases_Bool}
use Rattle.std.specs.List.{All}
use Rattle.std.proofs.lemmas.List.Elements.{All-nil, All-cons}
use Rattle.markdown_content.specs.declared.configuration.ParseOptions.{ParseOptions}
use Rattle.markdown_event.specs.declared.event.Event.{Event}
use Rattle.markdown_event.specs.declared.event.Point.{Point}
use Rattle.markdown_attention.specs.RunContainers.{ArePairsWithin, AreTakenOnce}
use Rattle.markdown_attention.specs.NumberedPairs.{run_at}
use Rattle.markdown_attention.specs.RunsRead.{opens_run, sequence_at, first_run, runs_from, outermost, Around, where_after, HaveRunPlaces}
use Rattle.markdown_attention.specs.PairScan.{AreRunsAfter}
use Rattle.markdown_attention.specs.declared.attention.pairing.Pair.{Pair}
use Rattle.markdown_attention.specs.declared.attention.runs.Sequence.{Sequence}
use Rattle.markdown_attention.specs.RunEvents.{shifted, total}
use Rattle.markdown_attention.specs.RunEdits.{point_in, HaveRunEnds, closed_sizes, opened_sizes, left_of}
use Rattle.markdown_attention.proofs.RunEditPlaces.{numbered}
use Rattle.markdown_attention.proofs.AttentionEditsLaw.{sizes-sum}
use Rattle.markdown_attention.specs.RunEdits.{HaveRunRoom}
use Rattle.markdown_attention.specs.PairSizes.{HasRoomFor}
use Rattle.markdown_content.specs.Codes.{Code}

-- a run among these events, the first of which is event i
record RunFits (r : Sequence) (i : ℕ) (es : List Event) : Type 0 where
  at : ℕ
  event : r.event ≡ i + at
  within : at < length es
  column : (point_in es at).column + r.size < 2 ^ 64
  index : (point_in es at).index + r.size < 2 ^ 64

fits-later : (r : Sequence) (i : ℕ) (e : Event) (es : List Event) → RunFits r (suc i) es → RunFits r i (e ∷ es)
fits-later r i e es f =
    record { at = suc f.at; event = omega (arith, f.event); within = omega (arith, f.within); column = f.column; index = f.index }

module _ (options : ParseOptions) (bytes : List ℕ) (content : List Code) where
  fits : (es : List Event) (n i : ℕ) (w : Around) (g : ℕ) → HaveRunPlaces bytes es → HaveRunEnds es → HaveRunRoom es →
      g < length (runs_from options bytes content n i w es) → RunFits (run_at (runs_from options bytes content n i w es) g) i es
  fits [] n i w g h k m l = absurd (omega (arith, l))
  fits (e ∷ []) n i w g h k m l = absurd (omega (arith, l))
  fits (e ∷ x ∷ es) n i w g h k m l =
      elim (cases_Bool (opens_run e)) [
        | inl o ↦
            subst (λ (xs : List Sequence). g < length (all xs) → RunFits (run_at (all xs) g) i (e ∷ x ∷ es)) (sym (yes-first o))
            (λ u. first g o u (λ j v. fits (x ∷ es) (n + 1) (suc i) next j h.1 k.1 m.1 v)) l
        | inr o ↦
            subst (λ (xs : List Sequence). g < length (all xs) → RunFits (run_at (all xs) g) i (e ∷ x ∷ es)) (sym (no-first o))
            (λ u. fits-later _ i e (x ∷ es) (fits (x ∷ es) (n + 0) (suc i) next g h.1 k.1 m.1 u)) l
      ]
    where
      next : Around
      next = where_after i e w

      q : Sequence
      q = sequence_at options bytes content n i w.container e.point x.point

      all : List Sequence → List Sequence
      all xs = xs ++ runs_from options bytes content (n + length xs) (suc i) next (x ∷ es)

      yes-first : opens_run e ≡ true → first_run options bytes content n i w.container (e ∷ x ∷ es) ≡ q ∷ []
      yes-first o = ap (λ (b : Bool). if b then q ∷ [] else []) o

      no-first : opens_run e ≡ false → first_run options bytes content n i w.container (e ∷ x ∷ es) ≡ []
      no-first o = ap (λ (b : Bool). if b then q ∷ [] else []) o

      first : (j : ℕ) → opens_run e ≡ true → j < length (all (q ∷ []))
          → ((j : ℕ) → j < length (runs_from options bytes content (n + 1) (suc i) next (x ∷ es)) → RunFits (run_at (runs_from options bytes content (n + 1) (suc i) next (x ∷ es)) j) (suc i) (x ∷ es))
          → RunFits (run_at (all (q ∷ [])) j) i (e ∷ x ∷ es)
      first zero o u ih =
          let end : x.point ≡ shifted e.point (x.point.index - e.point.index) = (k.0 o).1.1 in
          let c : x.point.column ≡ e.point.column + (x.point.index - e.point.index) = ap (λ (p : Point). p.column) end in
          let d : x.point.index ≡ e.point.index + (x.point.index - e.point.index) = ap (λ (p : Point). p.index) end in
          let small = m.0 o in
          record { at = 0; event = omega arith; within = omega arith; column = omega (arith, c, small.0); index = omega (arith, d, small.1) }
      first (suc j) o u ih = fits-later _ i e (x ∷ es) (ih j (omega (arith, u)))

module _ (options : ParseOptions) (bytes : List ℕ) (content : List Code) (es : List Event) (places : HaveRunPlaces bytes es) (ends : HaveRunEnds es) (room : HaveRunRoom es) (fin : List Sequence) (pairs : List Pair)
    (stands : AreRunsAfter (runs_from options bytes content 0 0 outermost es) fin pairs) (within : ArePairsWithin (runs_from options bytes content 0 0 outermost es) pairs) where
  abbrev list : List Sequence
  list = runs_from options bytes content 0 0 outermost es

  -- as `group_runs` asks
  pub has-room : AreTakenOnce list pairs → (i : ℕ) → i < length fin → HasRoomFor es (length fin) pairs (run_at fin i)
  has-room once i l =
      let size : length fin ≡ length list = stands.same_length in
      let u : i < length list = omega (arith, l, size) in
      let r : Sequence = run_at list i in
      let number : r.number ≡ i = numbered (λ x. []) options bytes content es 0 0 outermost i places u ∙ omega arith in
      let sum : total (closed_sizes i pairs) + left_of list pairs i + total (opened_sizes i pairs) ≡ r.size = sizes-sum list pairs i u within once in
      let f = fits options bytes content es 0 0 outermost i places ends room u in
      let at : r.event ≡ f.at = f.event ∙ omega arith in
      let sums : total (closed_sizes r.number pairs) + left_of list pairs i + total (opened_sizes r.number pairs) ≡ r.size =
      ap (λ j. total (closed_sizes j pairs) + left_of list pairs i + total (opened_sizes j pairs)) number ∙ sum in
      let column : (point_in es r.event).column + r.size < 2 ^ 64 = subst (λ j. (point_in es j).column + r.size < 2 ^ 64) (sym at) f.column in
      let index : (point_in es r.event).index + r.size < 2 ^ 64 = subst (λ j. (point_in es j).index + r.size < 2 ^ 64) (sym at) f.index in
      subst (λ (x : Sequence). HasRoomFor es (length fin) pairs x) (sym (stands.stands i u))
      (record { event = omega (arith, at, f.within); number = omega (arith, number, l); column = omega (arith, sums, column); index = omega (arith, sums, index) })

  openers : (ps : List Pair) → ArePairsWithin list ps → All (λ p. p.opener < length fin) ps
  openers [] w = All-nil (λ p. p.opener < length fin)
  openers (p ∷ ps) w =
      All-cons (λ x. x.opener < length fin) p ps (omega (arith, stands.same_length, w.0.within, w.0.order)) (openers ps w.1)

  pub have-openers : All (λ p. p.opener < length fin) pairs
  have-openers = openers pairs within
