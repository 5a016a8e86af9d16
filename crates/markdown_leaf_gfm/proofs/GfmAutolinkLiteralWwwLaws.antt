-- The laws of the states of a literal from `www.` on.
use Rattle.std.proofs.Common.{◌≡◌, ℕ, ◌+◌, ◌≤◌, ◌==◌, ◌&&◌, ◌||◌, not, Bool, true, false, if◌then◌else◌, Option, Some, None, List, [], ◌∷◌, ◌++◌, refl, sym, ap, subst, ◌∙◌, arith}
use Rattle.std.proofs.lemmas.Bool.{eqb-true, and_right, and_from}
use Rattle.std.proofs.lemmas.Bool.Decides.{nat_tests}
use Rattle.std.specs.Prelude.{codes, reverse, is_some}
use Rattle.std.specs.List.{list_any}
use Rattle.markdown_content.specs.Codes.{Code}
use Rattle.markdown_engine.specs.FailedRun.{Grown}
use Rattle.markdown_content.specs.ListFunctions.{rest_of}
use Rattle.markdown_engine.specs.Operations.{Op, Enter, Exit, Consume, ahead, applied, current_of, previous_of, done, frame_of, scratched}
use Rattle.markdown_content.specs.Place.{ahead_at, code_before, last_of, value_of}
use Rattle.markdown_engine.specs.StateRuns.{Stepped, Goes, going_state, going_in, restored}
use Rattle.markdown_engine.specs.TreeOps.{consumes}
use Rattle.markdown_engine.specs.Weights.{codes_left, weight_at}
use Rattle.markdown_event.specs.declared.event.Name.TheVariants as N
use Rattle.markdown_event.specs.declared.state.State.{State}
use Rattle.markdown_event.specs.declared.state.State.TheVariants.{Next, Retry, Nok}
use Rattle.markdown_event.specs.declared.state.StateName.TheVariants.{GfmAutolinkLiteralDomainInside, GfmAutolinkLiteralWwwAfter, GfmAutolinkLiteralWwwPrefixAfter, GfmAutolinkLiteralWwwPrefixInside}
use Rattle.markdown_engine.specs.declared.tokenizer.TokenizeState.{TokenizeState}
use Rattle.markdown_engine.specs.declared.tokenizer.Attempt.{Attempt}
use Rattle.markdown_engine.specs.declared.tokenizer.Tokenizer.{Tokenizer}
use Rattle.markdown_engine.proofs.ReadingSequences.{scratched-same}
use Rattle.markdown_engine.proofs.LawSteps.{if-step, code-step, Grown-refl, restored-grown}
use Rattle.markdown_engine.proofs.OperationFields.{ahead-none, ahead-some, ahead-consumed, attempts-applied, attempts-scratched, left-applied, left-consumed, left-scratched, scratch-scratched}
use Rattle.markdown_engine.proofs.OperationLemmas.{Grown-applied, Grown-scratched, ahead-done, scratch-done}
use Rattle.markdown_model.specs.CodeTests.{is_empty, is_among}
use Rattle.markdown_model.specs.GfmAutolinkLiteral.{domain, domain_from, path, path_from, last_parts_plain, may_precede_www, begins_with_www, www_from_here}
use Rattle.markdown_plan.specs.Plan.{Plan, plan_of, DoesAs}
use Rattle.markdown_plan.proofs.PlanSteps.{EndsAs-plan, none-read}
use Rattle.markdown_plan.specs.Characters.{bytes_of}
use Rattle.markdown_leaf_gfm.specs.GfmAutolinkLiteral.{end_of, before_of, is_on, rested, sized, ended, unworded, precedes_www, www_letter, may_begin_www, is_ruled_out, KnowsDomains, www_start_at, www_start_step, www_prefix_at, entered_literal, LiteralStartReady, LiteralReady, WwwReady, Looks, OnlyLooks, is_well}
use Rattle.markdown_leaf_gfm.specs.GfmAutolinkLiteral.{fields_after, domain_plan, address, pass_ops, domain_ends, www_test, www_prefix_ends, www_prefix_after_ends, www_after_ends, www_here, www_start_ends, states, www_after_words, www_prefix_after_words, www_prefix_words, www_start_words}
use Rattle.markdown_leaf_gfm.proofs.GfmAutolinkLiteralReadings.{address-is, www-more, www-other, www-left}
use Rattle.markdown_leaf_gfm.specs.DomainOutlook.{is_barred}
use Rattle.markdown_leaf_gfm.proofs.DomainOutlookLemmas.{ruled-out}
use Rattle.markdown_leaf_gfm.proofs.GfmAutolinkLiteralCovers.{leaf_ops, from-here-is, whole-www, www-is, www-none}
use Rattle.markdown_leaf_gfm.proofs.GfmAutolinkLiteralAttempts.{BeginsByConsuming, literal-ended, no-literal}
use Rattle.markdown_leaf_gfm.proofs.GfmAutolinkLiteralAddressLaws.{does-same}
use Rattle.markdown_leaf_gfm.proofs.CheckSteps.{Goes-both, goes-then}
use Rattle.markdown_model.proofs.GrammarSteps.{if-false, and-left, then-none}
use Rattle.markdown_engine.specs.StateWords.{Words, Law, GoesIn, end_words, weight_in}
use Rattle.markdown_plan.proofs.LawStepsOfLayer.{GoesOn-map, Goes-plain, Goes-end, Goes-no}
use Rattle.markdown_plan.specs.LayerEquation.{EqualsLayer}

-- In the word.

sized-same : (s : TokenizeState) → s.size ≡ 0 → sized 0 s ≡ s
sized-same s e = subst (λ n. record s { size = n } ≡ s) e refl

tries-here : (test : Bool) (T : Tokenizer) (ok : Bool) (U : Tokenizer) → ok ≡ test →
    U ≡ scratched (sized 0 T.tokenize_state) T → OnlyLooks test T ok U
tries-here test T ok U e h =
    let s : TokenizeState = sized 0 T.tokenize_state in
    record {
      answer = e;
      grown = subst (λ (x : Tokenizer). Grown 0 T x) (sym h) (Grown-scratched 0 s T (scratched s T) (Grown-refl 0 (scratched s T)));
      scratch = ap (λ (x : Tokenizer). x.tokenize_state) h ∙ scratch-scratched s T;
    }

tries-past : (n : ℕ) (test then1 : Bool) (T : Tokenizer) (ok : Bool) (U : Tokenizer) → then1 ≡ test →
    OnlyLooks then1 (scratched (sized n T.tokenize_state) (done (Consume ∷ []) T)) ok U → OnlyLooks test T ok U
tries-past n test then1 T ok U e k =
    record {
      answer = k.answer ∙ e;
      grown = Grown-applied 0 Consume T U refl (Grown-scratched 0 (sized n T.tokenize_state) (done (Consume ∷ []) T) U k.grown);
      scratch = k.scratch ∙ ap (λ (x : TokenizeState). sized 0 x) (scratch-scratched (sized n T.tokenize_state) (done (Consume ∷ []) T));
    }

-- behind the last code of it
tries-last : (test then1 : Bool) (T : Tokenizer) (ok : Bool) (U : Tokenizer) → then1 ≡ test →
    Looks then1 (scratched (sized 0 T.tokenize_state) (done (Consume ∷ []) T)) ok U → OnlyLooks test T ok U
tries-last test then1 T ok U e k =
    record {
      answer = k.answer ∙ e;
      grown = Grown-applied 0 Consume T U refl (Grown-scratched 0 (sized 0 T.tokenize_state) (done (Consume ∷ []) T) U k.grown);
      scratch = k.scratch ∙ scratch-scratched (sized 0 T.tokenize_state) (done (Consume ∷ []) T);
    }

www-then : (n : ℕ) (T : Tokenizer) (ok : Bool) (U : Tokenizer) →
    www_prefix_ends (scratched (sized n T.tokenize_state) (done (Consume ∷ []) T)) ok U →
    OnlyLooks (www_test n (rest_of (ahead T))) (scratched (sized n T.tokenize_state) (done (Consume ∷ []) T)) ok U
unfolding scratched
www-then n T ok U k =
    subst (λ cs. OnlyLooks (www_test n cs) (scratched (sized n T.tokenize_state) (done (Consume ∷ []) T)) ok U) (ahead-consumed T) k

last-then : (T : Tokenizer) (ok : Bool) (U : Tokenizer) →
    www_prefix_after_ends (scratched (sized 0 T.tokenize_state) (done (Consume ∷ []) T)) ok U →
    Looks (not (is_empty (rest_of (ahead T)))) (scratched (sized 0 T.tokenize_state) (done (Consume ∷ []) T)) ok U
unfolding scratched
last-then T ok U k =
    subst (λ cs. Looks (not (is_empty cs)) (scratched (sized 0 T.tokenize_state) (done (Consume ∷ []) T)) ok U) (ahead-consumed T) k

few-letters : (n v : ℕ) → www_letter n v ≡ true → (n == 3) ≡ false → n + 1 ≤ 3
few-letters n v e h = grind (arith, nat_tests)

www-ready : (n : ℕ) (T : Tokenizer) → n ≤ 3 → WwwReady (scratched (sized n T.tokenize_state) (done (Consume ∷ []) T))
unfolding scratched
www-ready n T h = record { few = h }

-- Where it stands.

before-www : (T : Tokenizer) → precedes_www (previous_of T) ≡ may_precede_www (before_of T)
unfolding code_before
before-www T = by_code (last_of T.cursor.codes T.cursor.at)
  where
    by_code : (o : Option Code) → precedes_www (value_of o) ≡ may_precede_www o
    by_code None = refl
    by_code (Some c) = refl

and-three : (a m w : Bool) → a && (m && w) ≡ (a && m) && w
and-three true m w = refl
and-three false m w = refl

-- a literal stands here where it may begin and the word is seen
stands-by : (T : Tokenizer) (cs : List Code) →
    is_on T && (may_precede_www (before_of T) && begins_with_www cs) ≡ may_begin_www T && www_test 0 cs
stands-by T cs =
    and-three (is_on T) (may_precede_www (before_of T)) (begins_with_www cs) ∙ ap (λ m. (is_on T && m) && begins_with_www cs) (sym (before-www T))

module _ (W : Words) (within : EqualsLayer states W) where
  tries-ended : (T : Tokenizer) (test : Bool) → T.attempts ≡ [] → test ≡ false →
      GoesIn W (weight_at 1 T) (OnlyLooks test T) (unworded T)
  tries-ended T test alone e =
      Goes-end W (weight_at 1 T) (OnlyLooks test T) false (scratched (sized 0 T.tokenize_state) T) (attempts-scratched (sized 0 T.tokenize_state) T ∙ alone) (omega arith) (λ ok U x. tries-here test T ok U (x.0 ∙ sym e) x.1)

  pub www_prefix-law : Law W www_prefix_words
  www_prefix-law T alone on =
      let P : Stepped → Type 0 = GoesIn W (weight_at 1 T) (www_prefix_ends T) in
      let s : TokenizeState = T.tokenize_state in
      let n : ℕ = s.size in
      let test : Bool = www_test n (ahead T) in
      code-step P (current_of T) (λ o. www_prefix_at o T)
      (λ e. tries-ended T test alone (ap (www_test n) (ahead-none T e) ∙ www-other n [] on.few refl))
      (λ c e. let b = ahead-some T c e in
      let more : List Code = rest_of (ahead T) in
      if-step P (www_letter n c) _ _
      (λ h. let next : www_test n (ahead T) ≡ www_test (n + 1) more = ap (www_test n) b.whole ∙ www-more n b.code more (ap (www_letter n) b.value ∙ h) in
      if-step P (n == 3) _ _
      (λ f. let V : Tokenizer = scratched (sized 0 s) (done (Consume ∷ []) T) in
      Goes-plain W (weight_at 1 T) (www_prefix_ends T) (Next GfmAutolinkLiteralWwwPrefixAfter) (within GfmAutolinkLiteralWwwPrefixAfter) V (attempts-scratched (sized 0 s) (done (Consume ∷ []) T) ∙ attempts-applied Consume T ∙ alone)
      tt
      (omega (arith, left-scratched (sized 0 s) (done (Consume ∷ []) T), left-consumed T c e))
      (λ ok U x. tries-last test _ T ok U (sym (next ∙ ap (λ k. www_test (k + 1) more) (eqb-true n 3 f) ∙ www-left more)) (last-then T ok U x)))
      (λ f. let V : Tokenizer = scratched (sized (n + 1) s) (done (Consume ∷ []) T) in
      Goes-plain W (weight_at 1 T) (www_prefix_ends T) (Next GfmAutolinkLiteralWwwPrefixInside) (within GfmAutolinkLiteralWwwPrefixInside) V (attempts-scratched (sized (n + 1) s) (done (Consume ∷ []) T) ∙ attempts-applied Consume T ∙ alone)
      (www-ready (n + 1) T (few-letters n c h f))
      (omega (arith, left-scratched (sized (n + 1) s) (done (Consume ∷ []) T), left-consumed T c e))
      (λ ok U x. tries-past (n + 1) test _ T ok U (sym next) (www-then (n + 1) T ok U x))))
      (λ h. tries-ended T test alone (ap (www_test n) b.whole ∙ www-other n (b.code ∷ more) on.few (ap (www_letter n) b.value ∙ h))))

  -- Behind it.

  code-there : (T : Tokenizer) (o : Option ℕ) → current_of T ≡ o → is_some o ≡ not (is_empty (ahead T))
  code-there T None e = sym (ap (λ cs. not (is_empty cs)) (ahead-none T e))
  code-there T (Some c) e = sym (ap (λ cs. not (is_empty cs)) (ahead-some T c e).whole)

  looks-here : (test : Bool) (T : Tokenizer) → T.attempts ≡ [] → (b : Bool) → b ≡ test →
      GoesIn W (weight_at 1 T) (Looks test T) (ended b T)
  looks-here test T alone true e =
      Goes-end W (weight_at 1 T) (Looks test T) true T alone (omega arith) (λ ok U x. record { answer = x.0 ∙ e; grown = subst (λ (y : Tokenizer). Grown 0 T y) (sym x.1) (Grown-refl 0 T); scratch = ap (λ (y : Tokenizer). y.tokenize_state) x.1 })
  looks-here test T alone false e =
      Goes-end W (weight_at 1 T) (Looks test T) false T alone (omega arith) (λ ok U x. record { answer = x.0 ∙ e; grown = subst (λ (y : Tokenizer). Grown 0 T y) (sym x.1) (Grown-refl 0 T); scratch = ap (λ (y : Tokenizer). y.tokenize_state) x.1 })

  pub www_prefix_after-law : Law W www_prefix_after_words
  www_prefix_after-law T alone on =
      looks-here (not (is_empty (ahead T))) T alone (is_some (current_of T)) (code-there T (current_of T) refl)

  -- The address.

  begins-by : (s : TokenizeState) (d : List Code) (os : List Op) → s.seen ≡ false →
      BeginsByConsuming (if is_well (fields_after d s) then Some (consumes d ++ os) else None)
  begins-by s [] os e xs k =
      let no : None ≡ Some xs = sym (if-false (is_well s) (Some os) None (ap (λ b. b && (not (s.marker == 95) && not (s.marker_b == 95))) e)) ∙ k in cc
  begins-by s (c ∷ cs) os e xs k = by_test (is_well (fields_after (c ∷ cs) s)) xs k
    where
      by_test : (b : Bool) (xs : List Op) → (if b then Some (Consume ∷ consumes cs ++ os) else None) ≡ Some xs →
          (more : List Op) × (xs ≡ Consume ∷ more)
      by_test true xs k = (consumes cs ++ os, cc)
      by_test false xs k = cc

  begins-address : (bytes : List ℕ) (end : ℕ) (s : TokenizeState) (cs : List Code) → rested s ≡ s →
      BeginsByConsuming (pass_ops (address bytes end cs))
  begins-address bytes end s cs e =
      subst BeginsByConsuming (sym (address-is bytes end s cs e)) (begins-by s (domain_from bytes end cs).0 (consumes (path_from bytes end s.size s.size_b (domain_from bytes end cs).1).0) (ap (λ (x : TokenizeState). x.seen) (sym e)))

  address-ready : (T : Tokenizer) → LiteralStartReady T → LiteralReady (entered_literal N.GfmAutolinkLiteralWww T)
  unfolding applied
  address-ready T k =
      let opened : T.tokenize_state.size ≡ 0 = ap (λ (x : TokenizeState). x.size) (sym k.resting) in
      let closed : T.tokenize_state.size_b ≡ 0 = ap (λ (x : TokenizeState). x.size_b) (sym k.resting) in
      record { text = k.text; opened = omega (arith, opened, k.short); closed = omega (arith, closed, k.short) }

  address-entered : (T : Tokenizer) → rested T.tokenize_state ≡ T.tokenize_state → (ok : Bool) (U : Tokenizer) →
      domain_ends (entered_literal N.GfmAutolinkLiteralWww T) ok U →
      DoesAs 0 (λ cs. pass_ops (address (bytes_of T) (end_of T) cs)) (rested T.tokenize_state) (entered_literal N.GfmAutolinkLiteralWww T) ok U
  unfolding applied
  address-entered T e ok U k =
      let A : Tokenizer = entered_literal N.GfmAutolinkLiteralWww T in
      does-same (λ cs. pass_ops (address (bytes_of T) (end_of T) cs)) (domain_plan (bytes_of T) (end_of T) T.tokenize_state) (rested T.tokenize_state) A ok U (address-is (bytes_of T) (end_of T) T.tokenize_state (ahead A) e) k

  -- The start.

  -- the word is looked at, and all is as before
  back-here : (A U : Tokenizer) (test ok : Bool) → A.tokenize_state.size ≡ 0 → OnlyLooks test A ok U →
      restored (frame_of true (Next GfmAutolinkLiteralDomainInside) Nok A) U ≡ A
  back-here A U test ok e k =
      restored-grown true (Next GfmAutolinkLiteralDomainInside) Nok A U k.grown ∙ ap (λ (x : TokenizeState). scratched x A) (k.scratch ∙ sized-same A.tokenize_state e) ∙ scratched-same A

  www-stands : (T : Tokenizer) (cs : List Code) → may_begin_www T && www_test 0 cs ≡ true →
      plan_of (www_here T) cs ≡ plan_of (www_from_here (bytes_of T) (end_of T)) cs
  www-stands T cs e = www-is (bytes_of T) (end_of T) (is_on T) (before_of T) cs (stands-by T cs ∙ e)

  www-fails : (T : Tokenizer) (cs : List Code) → may_begin_www T && www_test 0 cs ≡ false → plan_of (www_here T) cs ≡ None
  www-fails T cs e = www-none (bytes_of T) (end_of T) (is_on T) (before_of T) cs (stands-by T cs ∙ e)

  no-word : (a b w : Bool) → a && b ≡ false → (b ≡ false → w ≡ false) → a && w ≡ false
  no-word true b w e h = h e
  no-word false b w e h = refl

  -- the word has been looked at, behind the Enter of the literal
  word-tried : (T : Tokenizer) → LiteralStartReady T → may_begin_www T ≡ true → (b : Bool) (U : Tokenizer) →
      www_prefix_ends (entered_literal N.GfmAutolinkLiteralWww T) b U →
      Goes W.ready W.ends (weight_in W) (weight_at 7 T) (DoesAs 0 (plan_of (www_here T)) T.tokenize_state T) (frame_of false (Next GfmAutolinkLiteralWwwAfter) Nok (entered_literal N.GfmAutolinkLiteralWww T) ∷ []) (going_state (frame_of true (Next GfmAutolinkLiteralDomainInside) Nok (entered_literal N.GfmAutolinkLiteralWww T)) b) (going_in (frame_of true (Next GfmAutolinkLiteralDomainInside) Nok (entered_literal N.GfmAutolinkLiteralWww T)) b U)
  unfolding frame_of
  word-tried T on may b U x = by_answer b x
    where
      A : Tokenizer
      A = entered_literal N.GfmAutolinkLiteralWww T

      p : Plan
      p = plan_of (www_here T)

      n : ℕ
      n = weight_at 7 T

      scratch : A.tokenize_state ≡ T.tokenize_state
      scratch = scratch-done (Enter N.GfmAutolinkLiteralWww ∷ []) T

      size : A.tokenize_state.size ≡ 0
      size = ap (λ (s : TokenizeState). s.size) (scratch ∙ sym on.resting)

      test-same : www_test A.tokenize_state.size (ahead A) ≡ www_test 0 (ahead T)
      test-same = ap (λ m. www_test m (ahead A)) size ∙ ap (www_test 0) (ahead-done (Enter N.GfmAutolinkLiteralWww ∷ []) T)

      left : codes_left A ≤ codes_left T
      left = omega (arith, left-applied (Enter N.GfmAutolinkLiteralWww) T refl)

      G : List Attempt → State → Tokenizer → Type 0
      G = Goes W.ready W.ends (weight_in W) n (DoesAs 0 p T.tokenize_state T)

      outer : Attempt
      outer = frame_of false (Next GfmAutolinkLiteralWwwAfter) Nok A

      here : (ok : Bool) → OnlyLooks (www_test A.tokenize_state.size (ahead A)) A ok U →
          restored (frame_of true (Next GfmAutolinkLiteralDomainInside) Nok A) U ≡ A
      here ok k = back-here A U (www_test A.tokenize_state.size (ahead A)) ok size k

      on-address : www_test 0 (ahead T) ≡ true → G (outer ∷ []) (Next GfmAutolinkLiteralDomainInside) A
      on-address seen =
          goes-then W n (DoesAs 0 p T.tokenize_state T) outer [] (Next GfmAutolinkLiteralDomainInside) (within GfmAutolinkLiteralDomainInside) A (address-ready T on) (omega (arith, left))
          (λ ok V now y. literal-ended W N.GfmAutolinkLiteralWww (Next GfmAutolinkLiteralDomainInside) GfmAutolinkLiteralWwwAfter (address (bytes_of T) (end_of T)) p T on.resting
          (www-stands T (ahead T) (and_from (may_begin_www T) (www_test 0 (ahead T)) may seen) ∙ from-here-is (bytes_of T) (end_of T) (ahead T))
          n (within GfmAutolinkLiteralWwwAfter) (omega arith) (λ X less. omega (arith, less))
          (begins-address (bytes_of T) (end_of T) T.tokenize_state (ahead T) on.resting)
          (λ X z. z) (λ X k Y z. z) ok V (address-entered T on.resting ok V y))

      given-up : www_test 0 (ahead T) ≡ false → G (outer ∷ []) Nok A
      given-up seen =
          goes-then W n (DoesAs 0 p T.tokenize_state T) outer [] Nok {w = end_words false} refl A tt (omega (arith, left))
          (λ ok V now y. no-literal W n N.GfmAutolinkLiteralWww GfmAutolinkLiteralWwwAfter p T (omega arith) (www-fails T (ahead T) (and_right (may_begin_www T) (www_test 0 (ahead T)) seen)) ok V y)

      by_answer : (b : Bool) → OnlyLooks (www_test A.tokenize_state.size (ahead A)) A b U →
          G (outer ∷ []) (going_state (frame_of true (Next GfmAutolinkLiteralDomainInside) Nok A) b) (going_in (frame_of true (Next GfmAutolinkLiteralDomainInside) Nok A) b U)
      by_answer true k =
          subst (λ (X : Tokenizer). G (outer ∷ []) (Next GfmAutolinkLiteralDomainInside) X) (sym (here true k)) (on-address (sym test-same ∙ sym k.answer))
      by_answer false k =
          subst (λ (X : Tokenizer). G (outer ∷ []) Nok X) (sym (here false k)) (given-up (sym test-same ∙ sym k.answer))

  pub www_start-law : Law W www_start_words
  www_start-law T alone on =
      let s : TokenizeState = T.tokenize_state in
      let p : Plan = plan_of (www_here T) in
      let n : ℕ = weight_at 7 T in
      let F : Bool → Tokenizer → Type 0 = DoesAs 0 p s T in
      let P : Stepped → Type 0 = GoesIn W n F in
      let A : Tokenizer = entered_literal N.GfmAutolinkLiteralWww T in
      let size : A.tokenize_state.size ≡ 0 = ap (λ (x : TokenizeState). x.size) (scratch-done (Enter N.GfmAutolinkLiteralWww ∷ []) T ∙ sym on.resting) in
      GoesOn-map W n F (www_start_ends T) (www_start_step T) (λ ok U k. EndsAs-plan (www_here T) (whole-www (bytes_of T) (end_of T) (is_on T) (before_of T)) s T ok U k)
      (code-step P (current_of T) (λ o. www_start_at (may_begin_www T) o T)
      (λ e. Goes-no W 7 0 p T alone (ap p (ahead-none T e) ∙ www-fails T [] (and_right (may_begin_www T) (www_test 0 []) (www-other 0 [] (omega arith) refl))))
      (λ c e. let b = ahead-some T c e in
      let more : List Code = rest_of (ahead T) in
      if-step P (may_begin_www T && (c == 119 || c == 87)) _ _
      (λ h. Goes-both W n F (Retry GfmAutolinkLiteralWwwPrefixInside) (within GfmAutolinkLiteralWwwPrefixInside) true false (Next GfmAutolinkLiteralDomainInside) Nok (Next GfmAutolinkLiteralWwwAfter) Nok A (attempts-applied (Enter N.GfmAutolinkLiteralWww) T ∙ alone) (record { few = omega (arith, size) })
      (omega (arith, left-applied (Enter N.GfmAutolinkLiteralWww) T refl))
      (λ k U now x. word-tried T on (and-left (may_begin_www T) (c == 119 || c == 87) h) k U x))
      (λ h. Goes-no W 7 0 p T alone
      (ap p b.whole ∙ www-fails T (b.code ∷ more) (no-word (may_begin_www T) (c == 119 || c == 87) (www_test 0 (b.code ∷ more)) h (λ f. www-other 0 (b.code ∷ more) (omega arith) (ap (λ v. v == 119 || v == 87) b.value ∙ f)))))))

pub www_after-law : (W : Words) → Law W www_after_words
www_after-law W T alone _ =
    Goes-end W (weight_at 1 T) (www_after_ends T) true (done (Exit N.GfmAutolinkLiteralWww ∷ []) T) (attempts-applied (Exit N.GfmAutolinkLiteralWww) T ∙ alone) (omega arith) (λ ok U k. k)

-- Where it is known that no domain begins, no literal is read.

barred-domain : (bytes : List ℕ) (end : ℕ) (cs : List Code) → is_barred bytes end cs ≡ true →
    domain bytes end cs ≡ None
unfolding domain
barred-domain bytes end cs e =
    ap (λ b. elim b as (λ _. Option (List Code × List Code)) [ true ↦ Some (domain_from bytes end cs) | false ↦ None ])
    (no-domain (list_any (λ c. not (is_among (codes "._-") c)) (domain_from bytes end cs).0) (last_parts_plain 0 (reverse (domain_from bytes end cs).0)) e)
  where
    no-domain : (a b : Bool) → not b ≡ true → a && b ≡ false
    no-domain true true k = cc
    no-domain true false k = refl
    no-domain false b k = refl

pub www-ruled-out : (T : Tokenizer) → KnowsDomains T → is_ruled_out T ≡ true → www_here T (ahead T) ≡ None
unfolding ahead_at
www-ruled-out T knows e = none-read (www_here T (ahead T)) (by_test (may_begin_www T && www_test 0 (ahead T)) refl)
  where
    none : plan_of (www_from_here (bytes_of T) (end_of T)) (ahead T) ≡ None
    none =
        from-here-is (bytes_of T) (end_of T) (ahead T)
        ∙ ap (leaf_ops N.GfmAutolinkLiteralWww) (then-none (domain (bytes_of T) (end_of T)) (path (bytes_of T) (end_of T)) (ahead T) (barred-domain (bytes_of T) (end_of T) (ahead T) (ruled-out (bytes_of T) (end_of T) T.cursor.codes T.tokenize_state.no_domains T.cursor.at knows e)))

    by_test : (b : Bool) → may_begin_www T && www_test 0 (ahead T) ≡ b → plan_of (www_here T) (ahead T) ≡ None
    by_test true h = www-is (bytes_of T) (end_of T) (is_on T) (before_of T) (ahead T) (stands-by T (ahead T) ∙ h) ∙ none
    by_test false h = www-none (bytes_of T) (end_of T) (is_on T) (before_of T) (ahead T) (stands-by T (ahead T) ∙ h)
