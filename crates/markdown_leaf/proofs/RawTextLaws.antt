-- The laws of the states of code spans and math spans.
use Rattle.std.proofs.Common.{◌≡◌, ℕ, ◌+◌, ◌<◌, ◌≤◌, ◌==◌, ◌&&◌, ◌||◌, not, if◌then◌else◌, Bool, true, false, Option, Some, None, List, [], ◌∷◌, length, refl, sym, ap, subst, ◌∙◌, arith}
use Rattle.std.specs.Prelude.{codes}
use Rattle.markdown_content.specs.Codes.{Code}
use Rattle.markdown_content.specs.ListFunctions.{rest_of}
use Rattle.markdown_engine.specs.Operations.{Op, Enter, Exit, Consume, current_of, consumed, ahead, applied, done, scratched}
use Rattle.markdown_content.specs.Place.{value_of, code_before}
use Rattle.markdown_engine.specs.StateRuns.{Stepped, stepped}
use Rattle.markdown_content.specs.Stretch.{is_free}
use Rattle.markdown_engine.specs.Weights.{weight_at}
use Rattle.markdown_event.specs.declared.event.Name.TheVariants as N
use Rattle.markdown_event.specs.declared.state.State.TheVariants.{Next, Retry}
use Rattle.markdown_event.specs.declared.state.State.TheVariants as State
use Rattle.markdown_event.specs.declared.state.StateName.{StateName}
use Rattle.markdown_event.specs.declared.state.StateName.TheVariants as H
use Rattle.markdown_event.specs.declared.state.StateName.TheVariants.{RawTextSequenceOpen, RawTextBetween, RawTextData, RawTextSequenceClose}
use Rattle.markdown_engine.specs.declared.tokenizer.TokenizeState.{TokenizeState}
use Rattle.markdown_engine.specs.declared.tokenizer.Tokenizer.{Tokenizer}
use Rattle.markdown_engine.proofs.LawSteps.{if-step, code-step}
use Rattle.markdown_engine.proofs.SteadyLemmas.{steady-at, alone-is, alone-other}
use Rattle.markdown_engine.proofs.OperationFields.{ahead-none, ahead-some, BeginsWithValue, some-codes}
use Rattle.markdown_model.specs.CodeTests.{is_value, is_some_code, next_is}
use Rattle.markdown_model.specs.LeafConstructs.{SpanNames, code_names, math_names}
use Rattle.markdown_plan.specs.Plan.{Plan, preceded, plan_of, KeepsAs}
use Rattle.markdown_leaf.specs.RawText.{data_step, data_stops, names_in, begun, rested, is_same, is_barred, code_just_before, code_is_on, math_is_on, single_dollar, opened, start_at, start_step, after_opening, sequence_open_at, between_at, after_data, data_at, after_run, sequence_close_at, RawTextStartReady, SequenceOpenReady, DataReady}
use Rattle.markdown_leaf.specs.RawText.{SequenceCloseReady, between_rank, close_rank, span_at, inside_plan, is_data, data_plan, run_naming, opening_plan, start_ends, sequence_open_ends, between_ends, data_ends, sequence_close_ends, states, between_words, data_words, sequence_close_words, sequence_open_words, start_words}
use Rattle.markdown_model.specs.SingleConstructs.{follows_escape}
use Rattle.markdown_plan.specs.ScratchFields.{with_size, with_size_b}
use Rattle.markdown_plan.specs.LateNames.{Naming, NamesAs, opened as opened_by, renamed}
use Rattle.markdown_plan.proofs.LateNameSteps.{DoesAs-entered}
use Rattle.markdown_engine.proofs.OperationLemmas.{left-done}
use Rattle.markdown_plan.proofs.PlanSteps.{EndsAs-plan, preceded-twice}
use Rattle.markdown_leaf.proofs.RawTextReadings.{inside-none, inside-ending, inside-data, inside-run, data-more, data-end, run-more, run-closed, run-other, open-more, open-end, code-opens, math-opens-here, no-span}
use Rattle.markdown_leaf.proofs.RawTextReady.{start-opened, opened-more, opened-between, between-ending, between-data, between-run, data-next, data-between, run-next, run-between, opening-says}
use Rattle.markdown_model.proofs.GrammarSteps.{and-left, and-right, if-false, if-true}
use Rattle.markdown_model.proofs.PlainConstructs.{reads_switched, reads_either, reads_code_text, reads_math_text}
use Rattle.markdown_plan.proofs.SolidReadings.{ReadsSolid, plain-reads}
use Rattle.markdown_engine.specs.StateWords.{StateWords, Words, Law, GoesIn}
use Rattle.markdown_plan.proofs.LawStepsOfLayer.{GoesOn-map, Goes-on, Goes-ops, Goes-kept, Goes-inside, Goes-settled, Goes-nok, Goes-no, Goes-named}
use Rattle.markdown_plan.specs.LayerEquation.{EqualsLayer, AreLawful}

-- Tests.

-- past two events, and then past a marker
marker-then : (a b : Op) (x : Option (List Op)) → preceded (a ∷ b ∷ Consume ∷ []) x ≡ preceded (a ∷ b ∷ []) (preceded (Consume ∷ []) x)
marker-then a b None = refl
marker-then a b (Some os) = refl

neither : (a b : Bool) → a ≡ false → b ≡ false → not (a || b) ≡ true
neither false false e f = refl
neither true b e f = cc
neither false true e f = cc

free-is : (e : Bool) (m : ℕ) (o : Option Code) →
    not (is_same m (value_of o) && not e) ≡ (e || not (is_some_code (is_value m) o))
free-is true m None = refl
free-is false m None = refl
free-is true m (Some d) = elim (d.value == m) as (λ b. not (b && false) ≡ true) [ true ↦ refl | false ↦ refl ]
free-is false m (Some d) = elim (d.value == m) as (λ b. not (b && true) ≡ not b) [ true ↦ refl | false ↦ refl ]

-- nothing bars a span of this marker
pub barred-is : (m : ℕ) (T : Tokenizer) →
    not (is_barred m T) ≡ (follows_escape T.events || not (is_some_code (is_value m) (code_just_before T)))
unfolding code_before
barred-is m T = free-is (follows_escape T.events) m (code_just_before T)

whole : (T : Tokenizer) → ReadsSolid (span_at T)
whole T =
    plain-reads [] _ (reads_either [] _ _ (reads_switched [] _ _ (reads_code_text [] _ _ _)) (reads_switched [] _ _ (reads_math_text [] _ _ _)))

-- The ranks.

between-low : (o : Option ℕ) (T : Tokenizer) → between_rank o T ≤ 5
between-low None T = omega arith
between-low (Some c) T =
    elim (c == 10 || c == T.tokenize_state.marker) as (λ b. (if b then 3 else 5) ≤ 5) [ true ↦ omega arith | false ↦ omega arith ]

close-low : (o : Option ℕ) (T : Tokenizer) → close_rank o T ≤ 6
close-low None T = omega arith
close-low (Some c) T =
    elim (c == T.tokenize_state.marker) as (λ b. (if b then 2 else 6) ≤ 6) [ true ↦ omega arith | false ↦ omega arith ]

-- behind data
rank-end : (T : Tokenizer) → current_of T ≡ None →
    between_rank (current_of (done (Exit T.tokenize_state.token_3 ∷ []) T)) (done (Exit T.tokenize_state.token_3 ∷ []) T) ≡ 3
unfolding applied
rank-end T e = ap (λ o. between_rank o (done (Exit T.tokenize_state.token_3 ∷ []) T)) e

rank-stop : (T : Tokenizer) (c : ℕ) → current_of T ≡ Some c → c == 10 || c == T.tokenize_state.marker ≡ true →
    between_rank (current_of (done (Exit T.tokenize_state.token_3 ∷ []) T)) (done (Exit T.tokenize_state.token_3 ∷ []) T) ≡ 3
unfolding applied
rank-stop T c e h = ap (λ o. between_rank o (done (Exit T.tokenize_state.token_3 ∷ []) T)) e ∙ ap (λ b. if b then 3 else 5) h

-- before data
rank-data : (T : Tokenizer) (c : ℕ) → current_of T ≡ Some c → (c == 10) ≡ false → (c == T.tokenize_state.marker) ≡ false →
    between_rank (current_of T) T ≡ 5
rank-data T c e h g =
    ap (λ o. between_rank o T) e ∙ ap (λ b. if b || c == T.tokenize_state.marker then 3 else 5) h ∙ ap (λ b. if b then 3 else 5) g

between-high : (o : Option ℕ) (T : Tokenizer) → 3 ≤ between_rank o T
between-high None T = omega arith
between-high (Some c) T =
    elim (c == 10 || c == T.tokenize_state.marker) as (λ b. 3 ≤ (if b then 3 else 5)) [ true ↦ omega arith | false ↦ omega arith ]

-- before a run, which comes behind
rank-run : (T : Tokenizer) (c : ℕ) → current_of T ≡ Some c → (c == T.tokenize_state.marker) ≡ true →
    close_rank (current_of (done (Enter T.tokenize_state.token_2 ∷ []) T)) (done (Enter T.tokenize_state.token_2 ∷ []) T) < between_rank (current_of T) T
unfolding applied
rank-run T c e g =
    let V : Tokenizer = done (Enter T.tokenize_state.token_2 ∷ []) T in
    let two : close_rank (current_of V) V ≡ 2 = ap (λ o. close_rank o V) e ∙ ap (λ b. if b then 2 else 6) g in
    omega (arith, two, between-high (current_of T) T)

module _ (W : Words) (within : EqualsLayer states W) where
  -- The rest of a span, from its states.

  pub between-law : Law W between_words
  unfolding scratched applied
  between-law T alone k =
      let s : TokenizeState = T.tokenize_state in
      let m : ℕ = s.marker in
      let n : ℕ = between_rank (current_of T) T in
      let p : Plan = inside_plan m (names_in s) s.size in
      let q : ℕ → Naming = run_naming m (names_in s) s.size in
      let P : Stepped → Type 0 = GoesIn W (weight_at n T) (between_ends T) in
      code-step P (current_of T) (λ o. between_at o T)
      (λ e. Goes-nok W n 1 p (rested s) T alone (ap p (ahead-none T e) ∙ inside-none m (names_in s) s.size))
      (λ c e.
      let b : BeginsWithValue c (ahead T) = ahead-some T c e in
      let cs : List Code = rest_of (ahead T) in
      let more : 1 ≤ length (ahead T) = some-codes T c e in
      if-step P (c == 10) _ _
      (λ h.
      let V : Tokenizer = done (Enter N.LineEnding ∷ Consume ∷ Exit N.LineEnding ∷ []) T in
      Goes-kept W n 1 p p (Enter N.LineEnding ∷ Consume ∷ Exit N.LineEnding ∷ []) (rested s) T (Next RawTextBetween) (within RawTextBetween) alone refl more (omega (arith, between-low (current_of V) V))
      (ap p b.whole ∙ inside-ending m (names_in s) s.size k.marker b.code cs (ap (λ v. v == 10) b.value ∙ h))
      (between-ending T more k)
      (λ ok U x. x))
      (λ h. if-step P (c == m) _ _
      (λ g.
      let here : is_value m b.code ≡ true = ap (λ v. v == m) b.value ∙ g in
      let reads : p (ahead T) ≡ opened_by (q 0 (ahead T)) =
      ap p b.whole
      ∙ inside-run m (names_in s) s.size k.marker b.code cs here
      ∙ ap opened_by (sym (run-more m (names_in s) s.size 0 b.code cs here))
      ∙ ap (λ xs. opened_by (q 0 xs)) (sym b.whole) in
      Goes-ops W (weight_at n T) (between_ends T) (Retry RawTextSequenceClose) (within RawTextSequenceClose) (Enter s.token_2 ∷ []) T alone (between-run T k)
      (omega (arith, rank-run T c e g, left-done (Enter s.token_2 ∷ []) T (omega arith)))
      (λ ok U x. DoesAs-entered 1 p (q 0) s.token_2 (rested s) T reads ok U (subst (λ z. NamesAs 1 (q z) (rested s) (applied (Enter s.token_2) T) ok U) k.uncounted x)))
      (λ g.
      let inner : Plan = data_plan m (names_in s) s.size in
      let other : is_data m (names_in s) s.size b.code ≡ true = neither _ _ (ap (λ v. v == 10) b.value ∙ h) (ap (λ v. v == m) b.value ∙ g) in
      Goes-kept W n 1 p inner (Enter s.token_3 ∷ []) (rested s) T (Retry RawTextData) (within RawTextData) alone refl (omega arith) (omega (arith, rank-data T c e h g))
      (ap p b.whole
      ∙ inside-data m (names_in s) s.size b.code cs other
      ∙ preceded-twice (Enter s.token_3 ∷ []) (Consume ∷ []) (inner cs)
      ∙ ap (preceded (Enter s.token_3 ∷ [])) (sym (data-more m (names_in s) s.size b.code cs other))
      ∙ ap (λ xs. preceded (Enter s.token_3 ∷ []) (inner xs)) (sym b.whole))
      (between-data T k)
      (λ ok U x. x))))

  -- data ends where none comes next
  data-ends-here : (T : Tokenizer) → T.attempts ≡ [] → DataReady T →
      next_is (is_data T.tokenize_state.marker (names_in T.tokenize_state) T.tokenize_state.size) (ahead T) ≡ false →
      between_rank (current_of (done (Exit T.tokenize_state.token_3 ∷ []) T)) (done (Exit T.tokenize_state.token_3 ∷ []) T) ≡ 3 →
      GoesIn W (weight_at 4 T) (data_ends T) (after_data T)
  unfolding scratched applied
  data-ends-here T alone k h low =
      let s : TokenizeState = T.tokenize_state in
      Goes-kept W 4 2 (data_plan s.marker (names_in s) s.size) (inside_plan s.marker (names_in s) s.size) (Exit s.token_3 ∷ []) (rested s) T (Retry RawTextBetween) (within RawTextBetween) alone refl (omega arith) (omega (arith, low))
      (data-end s.marker (names_in s) s.size (ahead T) h)
      (data-between T k)
      (λ ok U x. x)

  pub data-law : Law W data_words
  unfolding scratched applied
  data-law T alone k =
      let s : TokenizeState = T.tokenize_state in
      let m : ℕ = s.marker in
      let p : Plan = data_plan m (names_in s) s.size in
      let q : Code → Bool = is_data m (names_in s) s.size in
      let P : Stepped → Type 0 = GoesIn W (weight_at 4 T) (data_ends T) in
      code-step P (current_of T) (λ o. data_at o T)
      (λ e. data-ends-here T alone k (ap (λ cs. next_is q cs) (ahead-none T e)) (rank-end T e))
      (λ c e.
      let b : BeginsWithValue c (ahead T) = ahead-some T c e in
      let here : q b.code ≡ not (c == 10 || c == m) = ap (λ v. not (v == 10 || v == m)) b.value in
      if-step P (c == 10 || c == m) _ _
      (λ h. data-ends-here T alone k (ap (λ cs. next_is q cs) b.whole ∙ here ∙ ap not h) (rank-stop T c e h))
      (λ h. Goes-kept W 4 2 p p (Consume ∷ []) (rested s) T (Next RawTextData) (within RawTextData) alone refl (some-codes T c e) (omega arith)
      (ap p b.whole ∙ data-more m (names_in s) s.size b.code (rest_of (ahead T)) (here ∙ ap not h))
      (data-next T (some-codes T c e) k)
      (λ ok U x. x)))

  -- the run ends where no marker comes next
  run-ends-here : (n : ℕ) → n ≡ 6 → (T : Tokenizer) → T.attempts ≡ [] → SequenceCloseReady T →
      next_is (is_value T.tokenize_state.marker) (ahead T) ≡ false →
      GoesIn W (weight_at n T) (sequence_close_ends T) (after_run T)
  unfolding scratched applied renamed
  run-ends-here n high T alone k h =
      let s : TokenizeState = T.tokenize_state in
      let m : ℕ = s.marker in
      let p : Naming = run_naming m (names_in s) s.size s.size_b in
      let os : List Op = Exit s.token_2 ∷ Exit s.token_1 ∷ [] in
      let V : Tokenizer = scratched (with_size_b 0 s) (done (Exit s.token_3 ∷ []) (renamed s.token_3 T)) in
      let P : Stepped → Type 0 = GoesIn W (weight_at n T) (sequence_close_ends T) in
      if-step P (s.size_b == s.size) _ _
      (λ g. subst (λ (x : Tokenizer). P (record { state = State.Ok; left = scratched (rested s) (done os x) })) k.entered
      (Goes-named W n 1 p s.token_2 os (rested s) T alone (run-closed m (names_in s) s.size s.size_b (ahead T) h g)))
      (λ g. Goes-settled W n 1 p s.token_3 (inside_plan m (names_in s) s.size) (Exit s.token_3 ∷ []) (rested s) (with_size_b 0 s) T (Retry RawTextBetween) (within RawTextBetween) alone refl (omega arith) (omega (arith, high, between-low (current_of V) V))
      (run-other m (names_in s) s.size s.size_b (ahead T) h g)
      (run-between T k)
      (λ ok U x. x))

  pub sequence_close-law : Law W sequence_close_words
  unfolding scratched applied
  sequence_close-law T alone k =
      let s : TokenizeState = T.tokenize_state in
      let m : ℕ = s.marker in
      let n : ℕ = close_rank (current_of T) T in
      let P : Stepped → Type 0 = GoesIn W (weight_at n T) (sequence_close_ends T) in
      code-step P (current_of T) (λ o. sequence_close_at o T)
      (λ e. run-ends-here n (ap (λ o. close_rank o T) e) T alone k (ap (λ cs. next_is (is_value m) cs) (ahead-none T e)))
      (λ c e.
      let b : BeginsWithValue c (ahead T) = ahead-some T c e in
      let here : is_value m b.code ≡ (c == m) = ap (λ v. v == m) b.value in
      let p : Naming = run_naming m (names_in s) s.size s.size_b in
      let V : Tokenizer = scratched (with_size_b (s.size_b + 1) s) (done (Consume ∷ []) T) in
      if-step P (c == m) _ _
      (λ h. Goes-inside W n 1 p (run_naming m (names_in s) s.size (s.size_b + 1)) (rested s) (with_size_b (s.size_b + 1) s) T (Next RawTextSequenceClose) (within RawTextSequenceClose) alone refl (some-codes T c e) (omega (arith, close-low (current_of V) V))
      (ap p b.whole ∙ run-more m (names_in s) s.size s.size_b b.code (rest_of (ahead T)) (here ∙ h))
      (run-next T (some-codes T c e) k)
      (λ ok U x. x))
      (λ h. run-ends-here n (ap (λ o. close_rank o T) e ∙ ap (λ b. if b then 2 else 6) h) T alone k (ap (λ cs. next_is (is_value m) cs) b.whole ∙ here ∙ h)))

  -- The opening run.

  run-opened : (T : Tokenizer) → T.attempts ≡ [] → SequenceOpenReady T →
      next_is (is_value T.tokenize_state.marker) (ahead T) ≡ false →
      GoesIn W (weight_at 6 T) (sequence_open_ends T) (after_opening T)
  unfolding scratched applied
  run-opened T alone k h =
      let s : TokenizeState = T.tokenize_state in
      let m : ℕ = s.marker in
      let p : Plan = opening_plan (single_dollar T) m (names_in s) s.size in
      let P : Stepped → Type 0 = GoesIn W (weight_at 6 T) (sequence_open_ends T) in
      let V : Tokenizer = done (Exit s.token_2 ∷ []) T in
      let end = open-end (single_dollar T) m (names_in s) s.size (ahead T) h in
      let short : Bool = m == 36 && (s.size == 1 && not (single_dollar T)) in
      if-step P short _ _
      (λ g. Goes-nok W 6 2 p (rested s) T alone (end ∙ if-false _ _ _ (ap not g)))
      (λ g. Goes-kept W 6 2 p (inside_plan m (names_in s) s.size) (Exit s.token_2 ∷ []) (rested s) T (Retry RawTextBetween) (within RawTextBetween) alone refl (omega arith) (omega (arith, between-low (current_of V) V))
      (end ∙ if-true _ _ _ (ap not g))
      (opened-between T k)
      (λ ok U x. x))

  pub sequence_open-law : Law W sequence_open_words
  unfolding scratched applied
  sequence_open-law T alone k =
      let s : TokenizeState = T.tokenize_state in
      let m : ℕ = s.marker in
      let P : Stepped → Type 0 = GoesIn W (weight_at 6 T) (sequence_open_ends T) in
      code-step P (current_of T) (λ o. sequence_open_at o T)
      (λ e. run-opened T alone k (ap (λ cs. next_is (is_value m) cs) (ahead-none T e)))
      (λ c e.
      let b : BeginsWithValue c (ahead T) = ahead-some T c e in
      let here : is_value m b.code ≡ (c == m) = ap (λ v. v == m) b.value in
      let p : Plan = opening_plan (single_dollar T) m (names_in s) s.size in
      if-step P (c == m) _ _
      (λ h. Goes-on W 6 2 p (opening_plan (single_dollar T) m (names_in s) (s.size + 1)) (Consume ∷ []) (rested s) (with_size (s.size + 1) s) T (Next RawTextSequenceOpen) (within RawTextSequenceOpen) alone refl (some-codes T c e) (omega arith)
      (ap p b.whole ∙ open-more (single_dollar T) m (names_in s) s.size b.code (rest_of (ahead T)) (here ∙ h))
      (opened-more T (some-codes T c e) k)
      (λ ok U x. x))
      (λ h. run-opened T alone k (ap (λ cs. next_is (is_value m) cs) b.whole ∙ here ∙ h)))

  -- The start.

  -- at the first marker of a span
  span-opened : (m : ℕ) (names : SpanNames) (T : Tokenizer) → T.attempts ≡ [] → RawTextStartReady T → (m == 10) ≡ false →
      {c : ℕ} (b : BeginsWithValue c (ahead T)) → is_value m b.code ≡ true →
      plan_of (span_at T) (ahead T) ≡ preceded (Enter names.whole ∷ Enter names.sequence ∷ Consume ∷ []) (opening_plan (single_dollar T) m names 1 (rest_of (ahead T))) →
      GoesIn W (weight_at 7 T) (KeepsAs 0 (plan_of (span_at T)) T) (opened m names T)
  span-opened m names T alone k other b here e =
      let fronts : List Op = Enter names.whole ∷ Enter names.sequence ∷ [] in
      Goes-on W 7 0 (plan_of (span_at T)) (opening_plan (single_dollar T) m names 0) fronts T.tokenize_state (begun m names T.tokenize_state) T (Retry RawTextSequenceOpen) (within RawTextSequenceOpen) alone refl (omega arith) (omega arith)
      (e
      ∙ marker-then (Enter names.whole) (Enter names.sequence) (opening_plan (single_dollar T) m names 1 (rest_of (ahead T)))
      ∙ ap (preceded fronts) (sym (open-more (single_dollar T) m names 0 b.code (rest_of (ahead T)) here))
      ∙ ap (λ cs. preceded fronts (opening_plan (single_dollar T) m names 0 cs)) (sym b.whole))
      (start-opened m names T other k)
      (λ ok U x. opening-says m names T ok U k.rest x)

  pub start-law : Law W start_words
  start-law T alone k =
      let p : Plan = plan_of (span_at T) in
      let on : Bool = code_is_on T in
      let math : Bool = math_is_on T in
      let single : Bool = single_dollar T in
      let escaped : Bool = follows_escape T.events in
      let previous : Option Code = code_just_before T in
      let E : Bool → Tokenizer → Type 0 = KeepsAs 0 p T in
      let P : Stepped → Type 0 = GoesIn W (weight_at 7 T) E in
      let code_free = barred-is 96 T in
      let math_free = barred-is 36 T in
      GoesOn-map W (weight_at 7 T) E (start_ends T) (start_step T) (λ ok U x. EndsAs-plan (span_at T) (whole T) T.tokenize_state T ok U x)
      (code-step P (current_of T) (λ o. start_at o T)
      (λ e. Goes-no W 7 0 p T alone (ap p (ahead-none T e) ∙ no-span on math single escaped previous [] refl refl))
      (λ c e.
      let b : BeginsWithValue c (ahead T) = ahead-some T c e in
      if-step P (c == 96 && (on && not (is_barred 96 T))) _ _
      (λ h. span-opened 96 code_names T alone k refl b (ap (λ v. v == 96) b.value ∙ and-left _ _ h)
      (ap p b.whole ∙ code-opens on math single escaped previous b.code (rest_of (ahead T)) (ap (λ v. v == 96) b.value ∙ and-left _ _ h) (and-left _ _ (and-right (c == 96) _ h)) (sym code_free ∙ and-right on _ (and-right (c == 96) _ h))))
      (λ h. if-step P (c == 36 && (math && not (is_barred 36 T))) _ _
      (λ g. span-opened 36 math_names T alone k refl b (ap (λ v. v == 36) b.value ∙ and-left _ _ g)
      (ap p b.whole ∙ math-opens-here on math single escaped previous b.code (rest_of (ahead T)) (ap (λ v. v == 36) b.value ∙ and-left _ _ g) (and-left _ _ (and-right (c == 36) _ g)) (sym math_free ∙ and-right math _ (and-right (c == 36) _ g))))
      (λ g. Goes-no W 7 0 p T alone
      (ap p b.whole ∙ no-span on math single escaped previous (b.code ∷ rest_of (ahead T)) (ap (λ v. (v == 96) && (on && (escaped || not (is_some_code (is_value 96) previous)))) b.value ∙ ap (λ f. (c == 96) && (on && f)) (sym code_free) ∙ h) (ap (λ v. (v == 36) && (math && (escaped || not (is_some_code (is_value 36) previous)))) b.value ∙ ap (λ f. (c == 36) && (math && f)) (sym math_free) ∙ g))))))

-- over a code that is neither a line ending nor the marker, a call does no more than pass it
pub data-steady : (T : Tokenizer) (set : List ℕ) → data_stops T.tokenize_state ≡ Some set →
    is_free set (current_of T) ≡ true → data_step T ≡ stepped (Next RawTextData) (consumed T)
data-steady T set known free =
    let m : ℕ = T.tokenize_state.marker in
    steady-at set T data_at (stepped (Next RawTextData) (consumed T)) free (λ v a b.
    let other : (v == m) ≡ false = alone-other v m set (alone-is (codes "`$") m set known) b in
    rw (a, other) refl)

-- of these states, and of any other as it is given
pub laws : (W : Words) → EqualsLayer states W → (t : StateName → StateWords) → AreLawful W t → AreLawful W (states t)
laws W within t other H.RawTextStart = start-law W within
laws W within t other H.RawTextSequenceOpen = sequence_open-law W within
laws W within t other H.RawTextBetween = between-law W within
laws W within t other H.RawTextData = data-law W within
laws W within t other H.RawTextSequenceClose = sequence_close-law W within
laws W within t other s = other s
