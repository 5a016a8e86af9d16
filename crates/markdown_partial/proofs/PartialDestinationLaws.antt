-- The laws of the states of a destination.
use Rattle.std.proofs.Common.{◌≡◌, ℕ, ◌+◌, ◌-◌, ◌≤◌, ◌==◌, ◌&&◌, ◌||◌, nat_lt, Bool, true, false, Option, Some, None, List, [], ◌∷◌, length, drop, add-one, refl, sym, ap, subst, ◌∙◌, arith, if◌then◌else◌, suc}
use Rattle.markdown_event.proofs.AndParts.{and-left}
use Rattle.std.proofs.lemmas.Bool.{or_from, or_left, or_parts}
use Rattle.markdown_content.specs.Codes.{Code}
use Rattle.markdown_content.specs.ListFunctions.{rest_of}
use Rattle.markdown_engine.specs.Operations.{Op, Consume, current_of, ahead, applied, done, scratched}
use Rattle.markdown_engine.specs.StateRuns.{Stepped, stepped}
use Rattle.markdown_engine.specs.Weights.{weight_at}
use Rattle.markdown_event.specs.declared.event.Name.TheVariants as N
use Rattle.markdown_event.specs.declared.state.State.TheVariants.{Next, Retry}
use Rattle.markdown_event.specs.declared.state.StateName.{StateName}
use Rattle.markdown_event.specs.declared.state.StateName.TheVariants as H
use Rattle.markdown_event.specs.declared.state.StateName.TheVariants.{DestinationEnclosedBefore, DestinationEnclosed, DestinationEnclosedEscape, DestinationRaw, DestinationRawEscape}
use Rattle.markdown_engine.specs.declared.tokenizer.TokenizeState.{TokenizeState}
use Rattle.markdown_engine.specs.declared.tokenizer.Tokenizer.{Tokenizer}
use Rattle.markdown_engine.proofs.LawSteps.{if-step, code-step}
use Rattle.markdown_engine.proofs.OperationFields.{ahead-none, ahead-some, BeginsWithValue, some-codes}
use Rattle.markdown_model.specs.CodeTests.{is_value, next_is}
use Rattle.markdown_model.specs.Grammar.{with_first}
use Rattle.markdown_model.specs.Resource.{DestinationNames, destination, raw_from}
use Rattle.markdown_plan.specs.Plan.{Plan, preceded, DoesAs, KeepsAs}
use Rattle.markdown_plan.specs.ScratchFields.{with_size}
use Rattle.markdown_plan.proofs.PlanSteps.{preceded-nil, no-codes}
use Rattle.markdown_partial.specs.PartialDestination.{refused, raw_on, raw_plain, raw_opens, nested, finished, names_in, control_value, bars_value, stops_value, opening, raw_opening, text_opening, closing, leaving, raw_ending, start_at, start_step, entering, enclosed_before_at, enclosed_at, escapes_enclosed, enclosed_escape_at, raw_at, escapes_raw, raw_escape_at}
use Rattle.markdown_partial.specs.PartialDestination.{before_rank, DestinationStartReady, EnclosedBeforeReady, EnclosedReady, RawReady, start_ends, text_then, enclosed_plan, before_plan, raw_plan, enclosed_before_ends, enclosed_ends, enclosed_escape_ends, raw_ends, raw_escape_ends, states, enclosed_before_words, enclosed_escape_words, enclosed_words, raw_escape_words, raw_words, start_words}
use Rattle.markdown_partial.specs.LinkedTreeOps.{plan_of}
use Rattle.markdown_partial.proofs.PartialDestinationReadings.{enclosed-none, enclosed-close, enclosed-refused, enclosed-next, enclosed-taken, enclosed-bare, text-first, destination-bracket, raw-end, raw-open-end, raw-taken, raw-bare, stops}
use Rattle.markdown_partial.proofs.PartialDestinationReadings.{raw-stop, raw-space, raw-control, raw-open, raw-deep, raw-close, raw-next, destination-raw, destination-end, destination-stops, destination-control, destination-linked}
use Rattle.markdown_partial.proofs.LinkedTreeLemmas.{EndsAs-linked}
use Rattle.markdown_partial.proofs.BoolLemmas.{same-value}
use Rattle.markdown_model.proofs.GrammarSteps.{if-true, if-false, right-true}
use Rattle.markdown_engine.specs.StateWords.{StateWords, Words, Law, GoesIn}
use Rattle.markdown_plan.proofs.LawStepsOfLayer.{GoesOn-map, Goes-on, Goes-kept, Goes-next, Goes-ok, Goes-yes, Goes-nok, Goes-no}
use Rattle.markdown_plan.specs.LayerEquation.{EqualsLayer, AreLawful}

-- The conditions.

opened-before : (T : Tokenizer) → EnclosedBeforeReady (done (opening (names_in T.tokenize_state)) T)
unfolding applied
opened-before T = refl

entered-text : (T : Tokenizer) → EnclosedBeforeReady T → EnclosedReady (done (text_opening (names_in T.tokenize_state)) T)
unfolding applied
entered-text T h = ap (λ ns. N.Data ∷ T.tokenize_state.token_5 ∷ ns) h

opened-raw : (T : Tokenizer) → RawReady (done (raw_opening (names_in T.tokenize_state)) T)
unfolding applied
opened-raw T = refl

enclosed-past : (T : Tokenizer) → EnclosedReady T → EnclosedReady (done (Consume ∷ []) T)
unfolding applied
enclosed-past T h = h

left-text : (T : Tokenizer) → EnclosedReady T → EnclosedBeforeReady (done (leaving (names_in T.tokenize_state)) T)
unfolding applied
left-text T h =
    let s : TokenizeState = T.tokenize_state in
    ap (λ ns. rest_of (rest_of ns)) h ∙ ap (λ ns. s.token_2 ∷ s.token_1 ∷ ns) (sym (ap (λ ns. drop 2 (rest_of (rest_of ns))) h))

before-low : (o : Option ℕ) → before_rank o ≤ 3
before-low None = omega arith
before-low (Some c) = elim (c == 62) as (λ b. (if b then 1 else 3) ≤ 3) [ true ↦ omega arith | false ↦ omega arith ]

-- at the closing bracket
rank-closes : (T : Tokenizer) (c : ℕ) → current_of T ≡ Some c → (c == 62) ≡ true →
    before_rank (current_of (done (leaving (names_in T.tokenize_state)) T)) ≡ 1
unfolding applied
rank-closes T c e h = ap before_rank e ∙ ap (λ b. if b then 1 else 3) h

raw-past : (T : Tokenizer) → RawReady T → RawReady (done (Consume ∷ []) T)
unfolding applied
raw-past T h = h

nested-past : (n : ℕ) (T : Tokenizer) → RawReady T →
    RawReady (scratched (with_size n T.tokenize_state) (done (Consume ∷ []) T))
unfolding applied scratched
nested-past n T h = h

-- Tests.

stops-from : (a b c d z : Bool) → z && (a || (b || (c || d))) ≡ true → ((c || a) || b) || (d && z) ≡ true
stops-from a b c d false e = cc
stops-from true b true d true e = refl
stops-from true b false d true e = refl
stops-from false true true d true e = refl
stops-from false true false d true e = refl
stops-from false false true d true e = refl
stops-from false false false true true e = refl
stops-from false false false false true e = cc

-- a test that holds of a value holds of another one with it
white_value : ℕ → Bool
white_value v = (v == 32 || v == 9) || v == 10

stops-here : (v : ℕ) (z : Bool) → z && stops_value v ≡ true → white_value v || (v == 41 && z) ≡ true
unfolding white_value
stops-here v z e = stops-from (v == 9) (v == 10) (v == 32) (v == 41) z e

white-stops : (a b c d : Bool) → (c || a) || b ≡ true → a || (b || (c || d)) ≡ true
white-stops true b c d e = refl
white-stops false true c d e = refl
white-stops false false true d e = refl
white-stops false false false d e = cc

or-none : (a b c : Bool) → (a ≡ true → c ≡ true) → (b ≡ true → c ≡ true) → c ≡ false → a || b ≡ false
or-none true b c f g e = let no : true ≡ false = sym (f refl) ∙ e in cc
or-none false true c f g e = let no : true ≡ false = sym (g refl) ∙ e in cc
or-none false false c f g e = refl

-- a code that is neither a space nor a control is no whitespace
plain-value : (v : ℕ) → control_value v || v == 32 ≡ false → white_value v ≡ false
unfolding white_value
plain-value v e =
    let control : ℕ → Bool = λ x. control_value x || x == 32 in
    or-none (v == 32 || v == 9) (v == 10) (control v)
    (λ h. or-here (v == 32) (v == 9) (control v) h (λ g. same-value v 32 g control) (λ g. same-value v 9 g control))
    (λ h. same-value v 10 h control) e where
      or-here : (a b c : Bool) → a || b ≡ true → (a ≡ true → c ≡ true) → (b ≡ true → c ≡ true) → c ≡ true
      or-here true b c h f g = f refl
      or-here false b c h f g = g h

-- a space, or a control, that does not end the destination refuses it
refused-by : (w : Bool) (max depth : ℕ) (c : Code) (cs : List Code) → white_value c.value ≡ w →
    (depth == 0 && stops_value c.value) ≡ false → is_value 41 c ≡ false →
    (control_value c.value || c.value == 32) ≡ true → raw_from max false depth (c ∷ cs) ≡ None
unfolding white_value
refused-by true max depth c cs e h k g =
    let closed : (depth == 0) ≡ false = right-true (depth == 0) (stops_value c.value) h (white-stops (c.value == 9) (c.value == 10) (c.value == 32) (c.value == 41) e) in
    raw-space max depth c cs (or_left _ _ e) closed
refused-by false max depth c cs e h k g =
    let goes : stops max depth c ≡ false = or_from _ _ e (ap (λ b. b && depth == 0) k) in
    raw-control max depth c cs goes (or-first (control_value c.value) (c.value == 32) g (or_parts _ _ (or_parts _ _ e).0).0) where
      or-first : (a b : Bool) → a || b ≡ true → b ≡ false → a ≡ true
      or-first true b h e = refl
      or-first false true h e = cc
      or-first false false h e = cc

module _ (W : Words) (within : EqualsLayer states W) where
  -- Between the brackets.

  pub enclosed-law : Law W enclosed_words
  unfolding applied
  enclosed-law T alone k =
      let names : DestinationNames = names_in T.tokenize_state in
      let p : Plan = enclosed_plan names false in
      let P : Stepped → Type 0 = GoesIn W (weight_at 2 T) (enclosed_ends T) in
      code-step P (current_of T) (λ o. enclosed_at o T)
      (λ e. Goes-no W 2 4 p T alone (ap p (ahead-none T e) ∙ enclosed-none names false))
      (λ c e.
      let b : BeginsWithValue c (ahead T) = ahead-some T c e in
      let cs : List Code = rest_of (ahead T) in
      let more : 1 ≤ length (ahead T) = some-codes T c e in
      if-step P (c == 62) _ _
      (λ h. Goes-next W 2 4 p (before_plan names) (leaving names) T (Retry DestinationEnclosedBefore) (within DestinationEnclosedBefore) alone refl (no-codes T) (omega (arith, rank-closes T c e h))
      (ap p b.whole ∙ enclosed-close names b.code cs (ap (λ v. v == 62) b.value ∙ h)
      ∙ ap (preceded (leaving names)) (sym (if-true (next_is (is_value 62) (ahead T)) (Some (closing names)) _ (ap (next_is (is_value 62)) b.whole ∙ ap (λ v. v == 62) b.value ∙ h))))
      (left-text T k)
      (λ ok U x. x))
      (λ h. if-step P (c == 60 || c == 10) _ _
      (λ g. Goes-no W 2 4 p T alone (ap p b.whole ∙ enclosed-refused names b.code cs (ap (λ v. v == 62) b.value ∙ h) (ap (λ v. v == 60 || v == 10) b.value ∙ g)))
      (λ g. if-step P (c == 92) _ _
      (λ f. Goes-next W 2 4 p (enclosed_plan names true) (Consume ∷ []) T (Next DestinationEnclosedEscape) (within DestinationEnclosedEscape) alone refl more (omega arith)
      (ap p b.whole ∙ enclosed-next names true b.code cs (ap (λ v. v == 62) b.value ∙ h) (ap (λ v. v == 60 || v == 10) b.value ∙ g) (ap (λ v. v == 92) b.value ∙ f))
      (enclosed-past T k)
      (λ ok U x. x))
      (λ f. Goes-next W 2 4 p p (Consume ∷ []) T (Next DestinationEnclosed) (within DestinationEnclosed) alone refl more (omega arith)
      (ap p b.whole ∙ enclosed-next names false b.code cs (ap (λ v. v == 62) b.value ∙ h) (ap (λ v. v == 60 || v == 10) b.value ∙ g) (ap (λ v. v == 92) b.value ∙ f))
      (enclosed-past T k)
      (λ ok U x. x)))))

  -- the backslash means itself
  enclosed-goes : (T : Tokenizer) → T.attempts ≡ [] → EnclosedReady T →
      enclosed_plan (names_in T.tokenize_state) true (ahead T) ≡ enclosed_plan (names_in T.tokenize_state) false (ahead T) →
      GoesIn W (weight_at 3 T) (enclosed_escape_ends T) (stepped (Retry DestinationEnclosed) T)
  enclosed-goes T alone k e =
      let names : DestinationNames = names_in T.tokenize_state in
      Goes-next W 3 4 (enclosed_plan names true) (enclosed_plan names false) [] T (Retry DestinationEnclosed) (within DestinationEnclosed) alone refl (no-codes T) (omega arith)
      (e ∙ preceded-nil (enclosed_plan names false (ahead T)))
      k
      (λ ok U x. x)

  pub enclosed_escape-law : Law W enclosed_escape_words
  unfolding applied
  enclosed_escape-law T alone k =
      let names : DestinationNames = names_in T.tokenize_state in
      let p : Plan = enclosed_plan names true in
      let P : Stepped → Type 0 = GoesIn W (weight_at 3 T) (enclosed_escape_ends T) in
      code-step P (current_of T) (λ o. enclosed_escape_at o T)
      (λ e. enclosed-goes T alone k (ap p (ahead-none T e) ∙ enclosed-none names true ∙ sym (enclosed-none names false) ∙ ap (enclosed_plan names false) (sym (ahead-none T e))))
      (λ c e.
      let b : BeginsWithValue c (ahead T) = ahead-some T c e in
      let cs : List Code = rest_of (ahead T) in
      if-step P (escapes_enclosed c) _ _
      (λ h. Goes-next W 3 4 p (enclosed_plan names false) (Consume ∷ []) T (Next DestinationEnclosed) (within DestinationEnclosed) alone refl (some-codes T c e) (omega arith)
      (ap p b.whole ∙ enclosed-taken names b.code cs (ap escapes_enclosed b.value ∙ h))
      (enclosed-past T k)
      (λ ok U x. x))
      (λ h. enclosed-goes T alone k (ap p b.whole ∙ enclosed-bare names b.code cs (ap escapes_enclosed b.value ∙ h) ∙ ap (enclosed_plan names false) (sym b.whole))))

  before-enters : (n : ℕ) → n ≡ 3 → (T : Tokenizer) → T.attempts ≡ [] → EnclosedBeforeReady T → next_is (is_value 62) (ahead T) ≡ false →
      GoesIn W (weight_at n T) (enclosed_before_ends T) (entering T)
  unfolding applied
  before-enters n high T alone k h =
      let names : DestinationNames = names_in T.tokenize_state in
      Goes-next W n 2 (before_plan names) (enclosed_plan names false) (text_opening names) T (Retry DestinationEnclosed) (within DestinationEnclosed) alone refl (no-codes T) (omega (arith, high))
      (if-false _ _ _ h)
      (entered-text T k)
      (λ ok U x. x)

  pub enclosed_before-law : Law W enclosed_before_words
  enclosed_before-law T alone k =
      let names : DestinationNames = names_in T.tokenize_state in
      let n : ℕ = before_rank (current_of T) in
      let P : Stepped → Type 0 = GoesIn W (weight_at n T) (enclosed_before_ends T) in
      code-step P (current_of T) (λ o. enclosed_before_at o T)
      (λ e. before-enters n (ap before_rank e) T alone k (ap (next_is (is_value 62)) (ahead-none T e)))
      (λ c e.
      let b : BeginsWithValue c (ahead T) = ahead-some T c e in
      let here : next_is (is_value 62) (ahead T) ≡ (c == 62) = ap (next_is (is_value 62)) b.whole ∙ ap (λ v. v == 62) b.value in
      if-step P (c == 62) _ _
      (λ h. Goes-yes W n 2 (before_plan names) (closing names) T alone (if-true _ _ _ (here ∙ h)))
      (λ h. before-enters n (ap before_rank e ∙ ap (λ b. if b then 1 else 3) h) T alone k (here ∙ h)))

  -- Without brackets.

  -- a code that is no parenthesis
  raw-plain-law : (T : Tokenizer) → T.attempts ≡ [] → RawReady T → (c : ℕ) → current_of T ≡ Some c →
      (T.tokenize_state.size == 0 && stops_value c) ≡ false → (c == 40) ≡ false → (c == 41) ≡ false →
      GoesIn W (weight_at 1 T) (raw_ends T) (raw_plain c T)
  unfolding applied scratched white_value
  raw-plain-law T alone k c e h g f =
      let s : TokenizeState = T.tokenize_state in
      let names : DestinationNames = names_in s in
      let max : ℕ = s.size_b in
      let depth : ℕ = s.size in
      let p : Plan = raw_plan names max false depth in
      let at : Option (List Code × List Code) → Option (List Op) = text_then (raw_ending names) in
      let P : Stepped → Type 0 = GoesIn W (weight_at 1 T) (raw_ends T) in
      let b : BeginsWithValue c (ahead T) = ahead-some T c e in
      let cs : List Code = rest_of (ahead T) in
      let more : 1 ≤ length (ahead T) = some-codes T c e in
      let tested : (q : ℕ → Bool) → q b.code.value ≡ q c = λ q. ap q b.value in
      let closer : is_value 41 b.code ≡ false = tested (λ v. v == 41) ∙ f in
      if-step P (control_value c || c == 32) (refused T) (if c == 92 then stepped (Next DestinationRawEscape) (done (Consume ∷ []) T) else stepped (Next DestinationRaw) (done (Consume ∷ []) T))
      (λ j. Goes-nok W 1 4 p (with_size 0 s) T alone
      (ap p b.whole ∙ ap at (refused-by (white_value b.code.value) max depth b.code cs refl (tested (λ v. depth == 0 && stops_value v) ∙ h) closer (tested (λ v. control_value v || v == 32) ∙ j))))
      (λ j.
      let plain : control_value b.code.value || b.code.value == 32 ≡ false = tested (λ v. control_value v || v == 32) ∙ j in
      let goes : stops max depth b.code ≡ false = or_from (white_value b.code.value) (is_value 41 b.code && depth == 0) (plain-value b.code.value plain) (ap (λ x. x && depth == 0) closer) in
      let next : raw_from max false depth (b.code ∷ cs) ≡ with_first b.code (raw_from max (b.code.value == 92) depth cs) =
      raw-next max depth b.code cs goes (or_parts (control_value b.code.value) (b.code.value == 32) plain).0 (tested (λ v. v == 40) ∙ g) closer in
      let reads : (x : Bool) → (c == 92) ≡ x → p (ahead T) ≡ preceded (Consume ∷ []) (raw_plan names max x depth cs) =
      λ x i. ap p b.whole ∙ ap at next ∙ text-first (raw_ending names) b.code (raw_from max (b.code.value == 92) depth cs) ∙ ap (λ y. preceded (Consume ∷ []) (raw_plan names max y depth cs)) (tested (λ v. v == 92) ∙ i) in
      if-step P (c == 92) (stepped (Next DestinationRawEscape) (done (Consume ∷ []) T)) (stepped (Next DestinationRaw) (done (Consume ∷ []) T))
      (λ i. Goes-kept W 1 4 p (raw_plan names max true depth) (Consume ∷ []) (with_size 0 s) T (Next DestinationRawEscape) (within DestinationRawEscape) alone refl more (omega arith) (reads true i) (raw-past T k) (λ ok U x. x))
      (λ i. Goes-kept W 1 4 p p (Consume ∷ []) (with_size 0 s) T (Next DestinationRaw) (within DestinationRaw) alone refl more (omega arith) (reads false i) (raw-past T k) (λ ok U x. x)))

  -- past a parenthesis, with so many open
  nested-law : (n : ℕ) (T : Tokenizer) → T.attempts ≡ [] → RawReady T → 1 ≤ length (ahead T) →
      raw_plan (names_in T.tokenize_state) T.tokenize_state.size_b false T.tokenize_state.size (ahead T) ≡ preceded (Consume ∷ []) (raw_plan (names_in T.tokenize_state) T.tokenize_state.size_b false n (drop 1 (ahead T))) →
      GoesIn W (weight_at 1 T) (raw_ends T) (nested n T)
  unfolding applied scratched
  nested-law n T alone k more reads =
      let s : TokenizeState = T.tokenize_state in
      let q : ℕ → Plan = raw_plan (names_in s) s.size_b false in
      Goes-on W 1 4 (q s.size) (q n) (Consume ∷ []) (with_size 0 s) (with_size n s) T (Next DestinationRaw) (within DestinationRaw) alone refl more (omega arith) reads (nested-past n T k) (λ ok U x. x)

  -- a code that does not end the destination
  raw-on-law : (T : Tokenizer) → T.attempts ≡ [] → RawReady T → (c : ℕ) → current_of T ≡ Some c →
      (T.tokenize_state.size == 0 && stops_value c) ≡ false → GoesIn W (weight_at 1 T) (raw_ends T) (raw_on c T)
  unfolding white_value
  raw-on-law T alone k c e h =
      let s : TokenizeState = T.tokenize_state in
      let names : DestinationNames = names_in s in
      let max : ℕ = s.size_b in
      let depth : ℕ = s.size in
      let p : Plan = raw_plan names max false depth in
      let at : Option (List Code × List Code) → Option (List Op) = text_then (raw_ending names) in
      let P : Stepped → Type 0 = GoesIn W (weight_at 1 T) (raw_ends T) in
      let b : BeginsWithValue c (ahead T) = ahead-some T c e in
      let cs : List Code = rest_of (ahead T) in
      let more : 1 ≤ length (ahead T) = some-codes T c e in
      if-step P (c == 40) (raw_opens T) (if c == 41 then nested (depth - 1) T else raw_plain c T)
      (λ g.
      let is : (q : ℕ → Bool) → q b.code.value ≡ q 40 = λ q. ap q b.value ∙ same-value c 40 g q in
      let goes : stops max depth b.code ≡ false = is (λ v. white_value v || (v == 41 && depth == 0)) in
      if-step P (nat_lt depth max) (nested (depth + 1) T) (refused T)
      (λ f. nested-law (depth + 1) T alone k more
      (ap p b.whole ∙ ap at (raw-open max depth b.code cs goes (is control_value) (is (λ v. v == 40)) f) ∙ text-first (raw_ending names) b.code (raw_from max false (suc depth) cs) ∙ ap (λ n. preceded (Consume ∷ []) (raw_plan names max false n cs)) (sym (add-one depth))))
      (λ f. Goes-nok W 1 4 p (with_size 0 s) T alone (ap p b.whole ∙ ap at (raw-deep max depth b.code cs goes (is control_value) (is (λ v. v == 40)) f))))
      (λ g. if-step P (c == 41) (nested (depth - 1) T) (raw_plain c T)
      (λ f.
      let is : (q : ℕ → Bool) → q b.code.value ≡ q 41 = λ q. ap q b.value ∙ same-value c 41 f q in
      let inner : (depth == 0) ≡ false = right-true (depth == 0) (stops_value c) h (same-value c 41 f stops_value) in
      let goes : stops max depth b.code ≡ false = is (λ v. white_value v || (v == 41 && depth == 0)) ∙ inner in
      nested-law (depth - 1) T alone k more
      (ap p b.whole ∙ ap at (raw-close max depth b.code cs goes (is control_value) (is (λ v. v == 40)) (is (λ v. v == 41))) ∙ text-first (raw_ending names) b.code (raw_from max false (depth - 1) cs)))
      (λ f. raw-plain-law T alone k c e h g f))

  pub raw-law : Law W raw_words
  unfolding white_value
  raw-law T alone k =
      let s : TokenizeState = T.tokenize_state in
      let names : DestinationNames = names_in s in
      let max : ℕ = s.size_b in
      let depth : ℕ = s.size in
      let p : Plan = raw_plan names max false depth in
      let at : Option (List Code × List Code) → Option (List Op) = text_then (raw_ending names) in
      let P : Stepped → Type 0 = GoesIn W (weight_at 1 T) (raw_ends T) in
      code-step P (current_of T) (λ o. raw_at o T)
      (λ e. if-step P (depth == 0) (finished T) (refused T)
      (λ h. Goes-ok W 1 4 p (raw_ending names) (with_size 0 s) T alone (ap p (ahead-none T e) ∙ ap at (raw-end max false depth h)))
      (λ h. Goes-nok W 1 4 p (with_size 0 s) T alone (ap p (ahead-none T e) ∙ ap at (raw-open-end max false depth h))))
      (λ c e.
      let b : BeginsWithValue c (ahead T) = ahead-some T c e in
      if-step P (depth == 0 && stops_value c) (finished T) (raw_on c T)
      (λ h. Goes-ok W 1 4 p (raw_ending names) (with_size 0 s) T alone
      (ap p b.whole ∙ ap at (raw-stop max depth b.code (rest_of (ahead T)) (stops-here b.code.value (depth == 0) (ap (λ v. depth == 0 && stops_value v) b.value ∙ h)) (and-left (depth == 0) (stops_value c) h))))
      (λ h. raw-on-law T alone k c e h))

  raw-goes : (T : Tokenizer) → T.attempts ≡ [] → RawReady T →
      raw_plan (names_in T.tokenize_state) T.tokenize_state.size_b true T.tokenize_state.size (ahead T) ≡ raw_plan (names_in T.tokenize_state) T.tokenize_state.size_b false T.tokenize_state.size (ahead T) →
      GoesIn W (weight_at 2 T) (raw_escape_ends T) (stepped (Retry DestinationRaw) T)
  raw-goes T alone k e =
      let s : TokenizeState = T.tokenize_state in
      let names : DestinationNames = names_in s in
      Goes-kept W 2 4 (raw_plan names s.size_b true s.size) (raw_plan names s.size_b false s.size) [] (with_size 0 s) T (Retry DestinationRaw) (within DestinationRaw) alone refl (no-codes T) (omega arith)
      (e ∙ preceded-nil (raw_plan names s.size_b false s.size (ahead T)))
      k
      (λ ok U x. x)

  pub raw_escape-law : Law W raw_escape_words
  unfolding applied
  raw_escape-law T alone k =
      let s : TokenizeState = T.tokenize_state in
      let names : DestinationNames = names_in s in
      let p : Plan = raw_plan names s.size_b true s.size in
      let q : Plan = raw_plan names s.size_b false s.size in
      let at : Option (List Code × List Code) → Option (List Op) = text_then (raw_ending names) in
      let P : Stepped → Type 0 = GoesIn W (weight_at 2 T) (raw_escape_ends T) in
      code-step P (current_of T) (λ o. raw_escape_at o T)
      (λ e. raw-goes T alone k (ap p (ahead-none T e) ∙ same-end (s.size == 0) names s.size_b s.size refl ∙ ap q (sym (ahead-none T e))))
      (λ c e.
      let b : BeginsWithValue c (ahead T) = ahead-some T c e in
      let cs : List Code = rest_of (ahead T) in
      if-step P (escapes_raw c) _ _
      (λ h. Goes-kept W 2 4 p q (Consume ∷ []) (with_size 0 s) T (Next DestinationRaw) (within DestinationRaw) alone refl (some-codes T c e) (omega arith)
      (ap p b.whole ∙ ap at (raw-taken s.size_b s.size b.code cs (ap escapes_raw b.value ∙ h)) ∙ text-first (raw_ending names) b.code _)
      (raw-past T k)
      (λ ok U x. x))
      (λ h. raw-goes T alone k (ap p b.whole ∙ ap at (raw-bare s.size_b s.size b.code cs (ap escapes_raw b.value ∙ h)) ∙ ap q (sym b.whole))))
    where
      same-end : (x : Bool) (names : DestinationNames) (max depth : ℕ) → (depth == 0) ≡ x →
          raw_plan names max true depth [] ≡ raw_plan names max false depth []
      same-end true names max depth e =
          ap (text_then (raw_ending names)) (raw-end max true depth e ∙ sym (raw-end max false depth e))
      same-end false names max depth e =
          ap (text_then (raw_ending names)) (raw-open-end max true depth e ∙ sym (raw-open-end max false depth e))

  -- From the start.

  rested : (s : TokenizeState) → s.size ≡ 0 → with_size 0 s ≡ s
  rested s e = let Q : ℕ → Type 0 = λ n. with_size n s ≡ s in subst Q e refl

  raw-says : (T : Tokenizer) → DestinationStartReady T → (ok : Bool) (U : Tokenizer) →
      raw_ends (done (raw_opening (names_in T.tokenize_state)) T) ok U →
      DoesAs 4 (raw_plan (names_in T.tokenize_state) T.tokenize_state.size_b false 0) T.tokenize_state (done (raw_opening (names_in T.tokenize_state)) T) ok U
  unfolding applied
  raw-says T k ok U x =
      let s : TokenizeState = T.tokenize_state in
      let V : Tokenizer = done (raw_opening (names_in s)) T in
      let Q : ℕ → Type 0 = λ n. DoesAs 4 (raw_plan (names_in s) s.size_b false n) (with_size 0 s) V ok U in
      let R : TokenizeState → Type 0 = λ q. DoesAs 4 (raw_plan (names_in s) s.size_b false 0) q V ok U in
      subst R (rested s k) (subst Q k x)

  none-by : (w : Bool) (max : ℕ) (names : DestinationNames) (c : Code) (cs : List Code) → stops max 0 c ≡ w →
      is_value 60 c ≡ false → bars_value c.value ≡ true → plan_of (destination max names) (c ∷ cs) ≡ None
  none-by true max names c cs e h k = destination-stops max names c cs h e
  none-by false max names c cs e h k =
      destination-control max names c cs h e (control-left (control_value c.value) (c.value == 32) (c.value == 41) (c.value == 9) (c.value == 10) k e) where
        control-left : (a b d x y : Bool) → a || (b || d) ≡ true → ((b || x) || y) || (d && true) ≡ false → a ≡ true
        control-left true b d x y h e = refl
        control-left false true d x y h e = cc
        control-left false false true true y h e = cc
        control-left false false true false true h e = cc
        control-left false false true false false h e = cc
        control-left false false false x y h e = cc

  pub start-law : Law W start_words
  unfolding applied white_value
  start-law T alone k =
      let s : TokenizeState = T.tokenize_state in
      let names : DestinationNames = names_in s in
      let max : ℕ = s.size_b in
      let p : Plan = plan_of (destination max names) in
      let E : Bool → Tokenizer → Type 0 = KeepsAs 0 p T in
      let P : Stepped → Type 0 = GoesIn W (weight_at 4 T) E in
      GoesOn-map W (weight_at 4 T) E (start_ends T) (start_step T) (λ ok U x. EndsAs-linked (destination max names) (destination-linked max names) s T ok U x)
      (code-step P (current_of T) (λ o. start_at o T)
      (λ e. Goes-no W 4 0 p T alone (ap p (ahead-none T e) ∙ destination-end max names))
      (λ c e.
      let b : BeginsWithValue c (ahead T) = ahead-some T c e in
      let cs : List Code = rest_of (ahead T) in
      if-step P (c == 60) _ _
      (λ h. Goes-next W 4 0 p (before_plan names) (opening names) T (Next DestinationEnclosedBefore) (within DestinationEnclosedBefore) alone refl (some-codes T c e) (omega (arith, before-low (current_of (done (opening names) T))))
      (ap p b.whole ∙ destination-bracket max names b.code cs (ap (λ v. v == 60) b.value ∙ h))
      (opened-before T)
      (λ ok U x. x))
      (λ h. if-step P (bars_value c) _ _
      (λ g. Goes-no W 4 0 p T alone
      (ap p b.whole ∙ none-by (stops max 0 b.code) max names b.code cs refl (ap (λ v. v == 60) b.value ∙ h) (ap bars_value b.value ∙ g)))
      (λ g.
      let bars : bars_value b.code.value ≡ false = ap bars_value b.value ∙ g in
      let v : ℕ = b.code.value in
      let plain : control_value v ≡ false = (or_parts (control_value v) (v == 32 || v == 41) bars).0 in
      let others : (v == 32 || v == 41) ≡ false = (or_parts (control_value v) (v == 32 || v == 41) bars).1 in
      let closer : is_value 41 b.code ≡ false = (or_parts (v == 32) (v == 41) others).1 in
      let white : white_value v ≡ false = plain-value v (or_from (control_value v) (v == 32) plain (or_parts (v == 32) (v == 41) others).0) in
      Goes-kept W 4 0 p (raw_plan names max false 0) (raw_opening names) s T (Retry DestinationRaw) (within DestinationRaw) alone refl (no-codes T) (omega arith)
      (ap p b.whole ∙ destination-raw max names b.code cs (ap (λ v. v == 60) b.value ∙ h) (or_from (white_value v) (is_value 41 b.code && true) white (ap (λ x. x && true) closer)) plain closer ∙ ap (λ xs. preceded (raw_opening names) (raw_plan names max false 0 xs)) (sym b.whole))
      (opened-raw T)
      (λ ok U x. raw-says T k ok U x)))))

-- of these states, and of any other as it is given
pub laws : (W : Words) → EqualsLayer states W → (t : StateName → StateWords) → AreLawful W t → AreLawful W (states t)
laws W within t other H.DestinationStart = start-law W within
laws W within t other H.DestinationEnclosedBefore = enclosed_before-law W within
laws W within t other H.DestinationEnclosed = enclosed-law W within
laws W within t other H.DestinationEnclosedEscape = enclosed_escape-law W within
laws W within t other H.DestinationRaw = raw-law W within
laws W within t other H.DestinationRawEscape = raw_escape-law W within
laws W within t other s = other s
