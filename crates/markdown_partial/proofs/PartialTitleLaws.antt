-- The laws of the states of a title.
use Rattle.std.proofs.Common.{◌≡◌, ℕ, ◌≤◌, ◌==◌, ◌&&◌, ◌||◌, if◌then◌else◌, Bool, true, false, Option, Some, None, List, [], ◌∷◌, length, drop, refl, sym, ap, subst, ◌∙◌, arith}
use Rattle.std.proofs.Math.Bool.{and-false}
use Rattle.std.proofs.lemmas.Bool.{eqb-true, or_parts}
use Rattle.markdown_content.specs.Codes.{Code, is_line_ending}
use Rattle.markdown_content.specs.ListFunctions.{rest_of}
use Rattle.markdown_content.specs.declared.configuration.Rules.{Rules}
use Rattle.markdown_engine.specs.Operations.{Op, Enter, Exit, Consume, current_of, ahead, applied, done, moves, scratched}
use Rattle.markdown_engine.specs.StateRuns.{Stepped, stepped}
use Rattle.markdown_engine.specs.Weights.{weight_at}
use Rattle.markdown_event.specs.declared.event.Name.TheVariants as N
use Rattle.markdown_event.specs.declared.state.State.TheVariants.{Next, Retry}
use Rattle.markdown_event.specs.declared.state.StateName.{StateName}
use Rattle.markdown_event.specs.declared.state.StateName.TheVariants as H
use Rattle.markdown_event.specs.declared.state.StateName.TheVariants.{TitleBegin, TitleAtBreak, TitleAfterEol, TitleInside, TitleEscape, TitleNok, SpaceOrTabEolStart}
use Rattle.markdown_engine.specs.declared.tokenizer.TokenizeState.{TokenizeState}
use Rattle.markdown_engine.specs.declared.tokenizer.Tokenizer.{Tokenizer}
use Rattle.markdown_engine.proofs.LawSteps.{if-step, code-step}
use Rattle.markdown_engine.proofs.OperationFields.{ahead-none, ahead-some, BeginsWithValue, attempts-scratched, some-codes}
use Rattle.markdown_model.specs.CodeTests.{is_value, next_is}
use Rattle.markdown_model.specs.Resource.{StringNames, title, escaped_between, is_bare_opener}
use Rattle.markdown_plan.specs.Plan.{Plan, preceded, DoesAs, KeepsAs}
use Rattle.markdown_plan.proofs.PlanSteps.{preceded-nil, preceded-twice, no-codes}
use Rattle.markdown_partial.specs.PartialSpaceOrTabEol.{WhitespaceAtRest}
use Rattle.markdown_partial.specs.LinkedTreeOps.{plan_of}
use Rattle.markdown_partial.specs.LinkedText.{closing, ending, names_in, rules_in, joined, enter_text, text_entered, TextReady, ends_filled}
use Rattle.markdown_partial.specs.PartialTitle.{begun, rested, both_in, is_refused, opening, opened, start_at, start_step, beginning, begin_at, passing, at_break_at, leaving, inside_at, escapes, escape_at, is_closer, begin_rank, break_rank, TitleStartReady, BeginReady, TitleBreakReady, AfterEolReady, TitleInsideReady, start_ends}
use Rattle.markdown_partial.specs.PartialTitle.{inside_plan, break_plan, begin_plan, begin_ends, at_break_ends, after_eol_ends, nok_ends, inside_ends, escape_ends, states_and_called, after_eol_words, at_break_words, begin_words, escape_words, inside_words, nok_words, start_words, states}
use Rattle.markdown_partial.proofs.LinkedTreeLemmas.{EndsAs-linked}
use Rattle.markdown_partial.proofs.LinkedTextLineEnding.{PassedEnding, DoesAs-ending, ending-law}
use Rattle.markdown_partial.proofs.LinkedTextReadings.{filled-data, filled-ending, filled-none, breaks-end, breaks-stop, breaks-refused, breaks-data, breaks-ending, breaks-blank, insides-end, insides-next, insides-taken, insides-bare, leave-end, leave-stop, leave-refused, leave-ending}
use Rattle.markdown_partial.proofs.LinkedTextSteps.{open-append, open-closed, open-rest, open-second, text-after, text-same, text-kept, rest-joined, DoesAs-fails, state-by, stays-data, moves-data, depth-data}
use Rattle.markdown_partial.proofs.PartialTitleReadings.{title-plain, of-closer, title-none, title-double, title-single, title-paren, title-linked}
use Rattle.markdown_partial.proofs.BoolLemmas.{or-by}
use Rattle.markdown_model.proofs.GrammarSteps.{if-true, if-false, and-right}
use Rattle.markdown_engine.specs.StateWords.{StateWords, Words, Law, GoesIn}
use Rattle.markdown_plan.proofs.LawStepsOfLayer.{GoesOn-map, Goes-plain, Goes-end, Goes-on, Goes-kept, Goes-ok, Goes-no, FollowsIn, follows}
use Rattle.markdown_plan.specs.LayerEquation.{EqualsLayer, AreLawful}

-- Tests.

-- what may be escaped is no line ending
escapes-line : (v : ℕ) → escapes v ≡ true → (v == 10) ≡ false
escapes-line v h =
    or-by (v == 92) (v == 40 || is_closer v) h (λ g. ap (λ n. n == 10) (eqb-true v 92 g)) (λ g.
    or-by (v == 40) (is_closer v) g (λ f. ap (λ n. n == 10) (eqb-true v 40 f)) (λ f. of-closer v (λ n. (n == 10) ≡ false) f refl refl refl))

-- what may not be escaped is neither a backslash nor a marker
bare-code : (both : Bool) (m v : ℕ) → is_closer m ≡ true → escapes v ≡ false → (b : Bool) → (v == m) ≡ b →
    (v == 92) || ((v == m) || (both && v == 40)) ≡ false
bare-code both m v k h true e =
    let no : false ≡ true = sym (or_parts (v == 40) (is_closer v) (or_parts (v == 92) _ h).1).1 ∙ ap is_closer (eqb-true v m e) ∙ k in cc
bare-code both m v k h false e =
    let single : (v == 40) ≡ false = (or_parts (v == 40) (is_closer v) (or_parts (v == 92) _ h).1).0 in
    rw ((or_parts (v == 92) _ h).0, e, single, and-false both) refl

-- a refused code is no closing marker
refused-other : (both : Bool) (m v : ℕ) → is_closer m ≡ true → both && v == 40 ≡ true → (v == m) ≡ false
refused-other both m v k h =
    ap (λ n. n == m) (eqb-true v 40 (and-right both (v == 40) h)) ∙ of-closer m (λ n. (40 == n) ≡ false) k refl refl refl

-- The conditions.

rest-begun : (m : ℕ) (s : TokenizeState) → WhitespaceAtRest s → WhitespaceAtRest (begun m s)
rest-begun m s r = record { space = ap (begun m) r.space; eol = ap (begun m) r.eol }

begun-ready : (m : ℕ) (T : Tokenizer) → 1 ≤ length (ahead T) → is_closer m ≡ true → TitleStartReady T →
    BeginReady (scratched (begun m T.tokenize_state) (done (opening (names_in T.tokenize_state)) T))
unfolding scratched applied
begun-ready m T more h k =
    let after : TextReady (scratched (begun m T.tokenize_state) (done (opening (names_in T.tokenize_state)) T)) = text-after (opening (names_in T.tokenize_state)) (begun m T.tokenize_state) T more k.text (rest-begun m T.tokenize_state k.text.resting) in
    record { text = record { short = after.short; resting = after.resting }; closer = h; stand_open = refl; first = λ _. ap (λ (s : TokenizeState). s.connect) (sym k.rest) }

entered-ready : (T : Tokenizer) → BeginReady T → next_is (is_value T.tokenize_state.marker) (ahead T) ≡ false →
    TitleBreakReady (done (Enter T.tokenize_state.token_3 ∷ []) T)
unfolding applied
entered-ready T k none =
    let after : TextReady (done (Enter T.tokenize_state.token_3 ∷ []) T) = text-kept (Enter T.tokenize_state.token_3 ∷ []) T (no-codes T) refl k.text in
    record {
      text = record { short = after.short; resting = after.resting };
      closer = k.closer;
      stand_open = ap (λ ns. T.tokenize_state.token_3 ∷ ns) k.stand_open;
      linked = λ h. let no : false ≡ true = sym (k.first none) ∙ h in cc;
    }

left-ready : (T : Tokenizer) → TitleInsideReady T → TitleBreakReady (done (Exit N.Data ∷ []) T)
unfolding applied
left-ready T k =
    let after : TextReady (done (Exit N.Data ∷ []) T) = text-kept (Exit N.Data ∷ []) T (no-codes T) refl k.text in
    record {
      text = record { short = after.short; resting = after.resting };
      closer = k.closer;
      stand_open = open-rest N.Data T.tokenize_state.token_3 T.tokenize_state.token_1 T.stack k.stand_open;
      linked = λ h. open-closed T.events _ k.linked refl;
    }

passed-ready : (T : Tokenizer) → 1 ≤ length (ahead T) → TitleInsideReady T → TitleInsideReady (done (Consume ∷ []) T)
unfolding applied
passed-ready T more k =
    let after : TextReady (done (Consume ∷ []) T) = text-kept (Consume ∷ []) T more refl k.text in
    record { text = record { short = after.short; resting = after.resting }; closer = k.closer; stand_open = k.stand_open; connect = k.connect; linked = k.linked }

data-ready : (b : Bool) (T : Tokenizer) → TitleBreakReady T →
    TitleInsideReady (scratched (joined T.tokenize_state) (done (enter_text b ∷ []) T))
unfolding scratched applied
data-ready true T k =
    let after : TextReady (scratched (joined T.tokenize_state) (done (enter_text true ∷ []) T)) = text-after (enter_text true ∷ []) (joined T.tokenize_state) T (no-codes T) k.text (rest-joined T.tokenize_state k.text.resting) in
    record { text = record { short = after.short; resting = after.resting }; closer = k.closer; stand_open = ap (λ ns. N.Data ∷ ns) k.stand_open; connect = refl; linked = open-append T.events _ refl }
data-ready false T k =
    let after : TextReady (scratched (joined T.tokenize_state) (done (enter_text false ∷ []) T)) = text-after (enter_text false ∷ []) (joined T.tokenize_state) T (no-codes T) k.text (rest-joined T.tokenize_state k.text.resting) in
    record { text = record { short = after.short; resting = after.resting }; closer = k.closer; stand_open = ap (λ ns. N.Data ∷ ns) k.stand_open; connect = refl; linked = open-append T.events _ refl }

ended-ready : (T : Tokenizer) → next_is (is_value T.tokenize_state.marker) (ahead T) ≡ true → TitleBreakReady T →
    BeginReady (done (Exit T.tokenize_state.token_3 ∷ []) T)
unfolding applied
ended-ready T here k =
    let after : TextReady (done (Exit T.tokenize_state.token_3 ∷ []) T) = text-kept (Exit T.tokenize_state.token_3 ∷ []) T (no-codes T) refl k.text in
    record {
      text = record { short = after.short; resting = after.resting };
      closer = k.closer;
      stand_open = open-second T.tokenize_state.token_3 T.tokenize_state.token_1 T.stack k.stand_open;
      first = λ h. let no : true ≡ false = sym here ∙ h in cc;
    }

eol-ready : (c : Code) (cs : List Code) (T U : Tokenizer) → TitleBreakReady T → PassedEnding T.tokenize_state.connect c cs T U →
    AfterEolReady U
eol-ready c cs T U k j =
    record {
      text = text-same T U k.text j.fewer j.scratch;
      closer = ap (λ (s : TokenizeState). is_closer s.marker) j.scratch ∙ k.closer;
      stand_open =
          subst (λ (s : TokenizeState). U.stack ≡ s.token_3 ∷ s.token_1 ∷ drop 2 U.stack) (sym j.scratch) (subst (λ ns. ns ≡ T.tokenize_state.token_3 ∷ T.tokenize_state.token_1 ∷ drop 2 ns) (sym j.stack) k.stand_open);
      linked = j.linked;
    }

joined-ready : (T : Tokenizer) → AfterEolReady T → TitleBreakReady (scratched (joined T.tokenize_state) T)
unfolding scratched
joined-ready T k =
    record { text = record { short = k.text.short; resting = rest-joined T.tokenize_state k.text.resting }; closer = k.closer; stand_open = k.stand_open; linked = λ h. k.linked }

-- The ranks.

begin-low : (o : Option ℕ) (T : Tokenizer) → begin_rank o T ≤ 13
begin-low None T = omega arith
begin-low (Some c) T =
    elim (c == T.tokenize_state.marker) as (λ b. (if b then 9 else 13) ≤ 13) [ true ↦ omega arith | false ↦ omega arith ]

break-low : (o : Option ℕ) (T : Tokenizer) → break_rank o T ≤ 12
break-low None T = omega arith
break-low (Some c) T =
    elim (c == 10 || (c == T.tokenize_state.marker || is_refused c T)) as (λ b. (if b then 10 else 12) ≤ 12) [ true ↦ omega arith | false ↦ omega arith ]

break-high : (o : Option ℕ) (T : Tokenizer) → 10 ≤ break_rank o T
break-high None T = omega arith
break-high (Some c) T =
    elim (c == 10 || (c == T.tokenize_state.marker || is_refused c T)) as (λ b. 10 ≤ (if b then 10 else 12)) [ true ↦ omega arith | false ↦ omega arith ]

-- behind a stretch
rank-end : (T : Tokenizer) → current_of T ≡ None →
    break_rank (current_of (done (Exit N.Data ∷ []) T)) (done (Exit N.Data ∷ []) T) ≡ 10
unfolding applied
rank-end T e = ap (λ o. break_rank o (done (Exit N.Data ∷ []) T)) e

rank-stop : (T : Tokenizer) (c : ℕ) → current_of T ≡ Some c → c == 10 || (c == T.tokenize_state.marker || is_refused c T) ≡ true →
    break_rank (current_of (done (Exit N.Data ∷ []) T)) (done (Exit N.Data ∷ []) T) ≡ 10
unfolding applied
rank-stop T c e h = ap (λ o. break_rank o (done (Exit N.Data ∷ []) T)) e ∙ ap (λ b. if b then 10 else 12) h

-- before one
rank-goes : (T : Tokenizer) (c : ℕ) → current_of T ≡ Some c → (c == T.tokenize_state.marker) ≡ false → (c == 10) ≡ false → is_refused c T ≡ false →
    break_rank (current_of T) T ≡ 12
rank-goes T c e h g f =
    ap (λ o. break_rank o T) e
    ∙ ap (λ b. if b || (c == T.tokenize_state.marker || is_refused c T) then 10 else 12) g
    ∙ ap (λ b. if b || is_refused c T then 10 else 12) h
    ∙ ap (λ b. if b then 10 else 12) f

-- at the closing marker
rank-closes : (T : Tokenizer) (c : ℕ) → current_of T ≡ Some c → (c == T.tokenize_state.marker) ≡ true →
    begin_rank (current_of (done (Exit T.tokenize_state.token_3 ∷ []) T)) (done (Exit T.tokenize_state.token_3 ∷ []) T) ≡ 9
unfolding applied
rank-closes T c e h = ap (λ o. begin_rank o (done (Exit T.tokenize_state.token_3 ∷ []) T)) e ∙ ap (λ b. if b then 9 else 13) h

-- The laws.

module _ (W : Words) (within : EqualsLayer states_and_called W) where
  pub nok-law : Law W nok_words
  nok-law T alone _ =
      Goes-end W (weight_at 1 T) (nok_ends T) false (scratched (rested T.tokenize_state) T) (attempts-scratched _ T ∙ alone) (omega arith) (λ ok U k. k)

  eol-says : (T : Tokenizer) (ok : Bool) (U : Tokenizer) → at_break_ends (scratched (joined T.tokenize_state) T) ok U →
      DoesAs 2 (break_plan (both_in T) 40 T.tokenize_state.marker (names_in T.tokenize_state) true) (rested T.tokenize_state) (scratched (joined T.tokenize_state) T) ok U
  unfolding scratched
  eol-says T ok U k = k

  pub after_eol-law : Law W after_eol_words
  after_eol-law T alone k =
      let s : TokenizeState = T.tokenize_state in
      let q : Plan = break_plan (both_in T) 40 s.marker (names_in s) true in
      let V : Tokenizer = scratched (joined s) T in
      Goes-on W 13 2 q q [] (rested s) (joined s) T (Retry TitleAtBreak) (within TitleAtBreak) alone refl (no-codes T) (omega (arith, break-low (current_of V) V))
      (preceded-nil (q (ahead T)))
      (joined-ready T k)
      (λ ok U x. eol-says T ok U x)

  -- In a stretch.

  -- on past a code that passes
  goes-inside : (T : Tokenizer) → T.attempts ≡ [] → TitleInsideReady T → (c : ℕ) → current_of T ≡ Some c →
      inside_plan (both_in T) 40 T.tokenize_state.marker (names_in T.tokenize_state) false (ahead T) ≡ preceded (Consume ∷ []) (inside_plan (both_in T) 40 T.tokenize_state.marker (names_in T.tokenize_state) (c == 92) (drop 1 (ahead T))) →
      GoesIn W (weight_at 11 T) (inside_ends T) (passing c T)
  unfolding applied
  goes-inside T alone k c h same =
      let s : TokenizeState = T.tokenize_state in
      let q : Bool → Plan = inside_plan (both_in T) 40 s.marker (names_in s) in
      let V : Tokenizer = done (Consume ∷ []) T in
      state-by (λ st. GoesIn W (weight_at 11 T) (inside_ends T) (stepped st V)) (c == 92) (Next TitleEscape) (Next TitleInside)
      (λ f. Goes-kept W 11 3 (q false) (q true) (Consume ∷ []) (rested s) T (Next TitleEscape) (within TitleEscape) alone refl (some-codes T c h) (omega arith)
      (same ∙ ap (λ b. preceded (Consume ∷ []) (q b (drop 1 (ahead T)))) f)
      (passed-ready T (some-codes T c h) k)
      (λ ok U x. x))
      (λ f. Goes-kept W 11 3 (q false) (q false) (Consume ∷ []) (rested s) T (Next TitleInside) (within TitleInside) alone refl (some-codes T c h) (omega arith)
      (same ∙ ap (λ b. preceded (Consume ∷ []) (q b (drop 1 (ahead T)))) f)
      (passed-ready T (some-codes T c h) k)
      (λ ok U x. x))

  goes-leave : (T : Tokenizer) → T.attempts ≡ [] → TitleInsideReady T →
      break_rank (current_of (done (Exit N.Data ∷ []) T)) (done (Exit N.Data ∷ []) T) ≡ 10 →
      inside_plan (both_in T) 40 T.tokenize_state.marker (names_in T.tokenize_state) false (ahead T) ≡ preceded (Exit N.Data ∷ []) (break_plan (both_in T) 40 T.tokenize_state.marker (names_in T.tokenize_state) true (ahead T)) →
      GoesIn W (weight_at 11 T) (inside_ends T) (leaving T)
  unfolding applied
  goes-leave T alone k low same =
      let s : TokenizeState = T.tokenize_state in
      let q : Plan = break_plan (both_in T) 40 s.marker (names_in s) s.connect in
      Goes-kept W 11 3 (inside_plan (both_in T) 40 s.marker (names_in s) false) q (Exit N.Data ∷ []) (rested s) T (Retry TitleAtBreak) (within TitleAtBreak) alone refl (no-codes T) (omega (arith, low))
      (same ∙ ap (λ b. preceded (Exit N.Data ∷ []) (break_plan (both_in T) 40 s.marker (names_in s) b (ahead T))) (sym k.connect))
      (left-ready T k)
      (λ ok U x. x)

  pub inside-law : Law W inside_words
  inside-law T alone k =
      let s : TokenizeState = T.tokenize_state in
      let m : ℕ = s.marker in
      let names : StringNames = names_in s in
      let both : Bool = both_in T in
      let takes : Code → Bool = escaped_between both 40 m in
      let bare : Code → Bool = is_bare_opener both 40 in
      let p : Plan = inside_plan (both_in T) 40 m names false in
      let P : Stepped → Type 0 = GoesIn W (weight_at 11 T) (inside_ends T) in
      let here : List Code → Type 0 = λ xs. p xs ≡ preceded (Exit N.Data ∷ []) (break_plan (both_in T) 40 m names true xs) in
      code-step P (current_of T) (λ o. inside_at o T)
      (λ e. goes-leave T alone k (rank-end T e) (subst here (sym (ahead-none T e)) (leave-end (is_value m) takes bare (title-plain both m k.closer) (ending names) (ends_filled true))))
      (λ c e.
      let b : BeginsWithValue c (ahead T) = ahead-some T c e in
      let cs : List Code = rest_of (ahead T) in
      if-step P (c == 10 || (c == m || is_refused c T)) _ _
      (λ h. goes-leave T alone k (rank-stop T c e h) (subst here (sym b.whole) (or-by (c == 10) (c == m || is_refused c T) h
      (λ g. leave-ending (is_value m) takes bare (title-plain both m k.closer) (ending names) (ends_filled true) b.code cs (ap (λ v. v == 10) b.value ∙ g))
      (λ g. or-by (c == m) (is_refused c T) g
      (λ f. leave-stop (is_value m) takes bare (title-plain both m k.closer) (ending names) (ends_filled true) b.code cs (ap (λ v. v == m) b.value ∙ f))
      (λ f. leave-refused (is_value m) takes bare (title-plain both m k.closer) (ending names) (ends_filled true) b.code cs (ap (λ v. v == m) b.value ∙ refused-other both m c k.closer f) (ap (λ v. both && v == 40) b.value ∙ f))))))
      (λ h.
      let line : is_line_ending b.code ≡ false = ap (λ v. v == 10) b.value ∙ (or_parts _ _ h).0 in
      goes-inside T alone k c e
      (ap p b.whole ∙ insides-next (is_value m) takes bare (title-plain both m k.closer) (ending names) (ends_filled true) (ends_filled true) (c == 92) b.code cs (ap (λ v. v == m) b.value ∙ (or_parts _ _ (or_parts _ _ h).1).0) (ap (λ v. both && v == 40) b.value ∙ (or_parts _ _ (or_parts _ _ h).1).1) line (ap (λ v. v == 92) b.value) (λ text. filled-data b.code text line))))

  escape-goes : (T : Tokenizer) → T.attempts ≡ [] → TitleInsideReady T →
      inside_plan (both_in T) 40 T.tokenize_state.marker (names_in T.tokenize_state) true (ahead T) ≡ inside_plan (both_in T) 40 T.tokenize_state.marker (names_in T.tokenize_state) false (ahead T) →
      GoesIn W (weight_at 12 T) (escape_ends T) (stepped (Retry TitleInside) T)
  escape-goes T alone k same =
      let s : TokenizeState = T.tokenize_state in
      let q : Bool → Plan = inside_plan (both_in T) 40 s.marker (names_in s) in
      Goes-kept W 12 3 (q true) (q false) [] (rested s) T (Retry TitleInside) (within TitleInside) alone refl (no-codes T) (omega arith)
      (same ∙ preceded-nil (q false (ahead T)))
      k
      (λ ok U x. x)

  pub escape-law : Law W escape_words
  unfolding applied
  escape-law T alone k =
      let s : TokenizeState = T.tokenize_state in
      let m : ℕ = s.marker in
      let names : StringNames = names_in s in
      let both : Bool = both_in T in
      let takes : Code → Bool = escaped_between both 40 m in
      let bare : Code → Bool = is_bare_opener both 40 in
      let q : Bool → Plan = inside_plan (both_in T) 40 m names in
      let P : Stepped → Type 0 = GoesIn W (weight_at 12 T) (escape_ends T) in
      let same : List Code → Type 0 = λ xs. q true xs ≡ q false xs in
      code-step P (current_of T) (λ o. escape_at o T)
      (λ e. escape-goes T alone k (subst same (sym (ahead-none T e)) (insides-end (is_value m) takes bare (title-plain both m k.closer) (ending names) (ends_filled true) true ∙ sym (insides-end (is_value m) takes bare (title-plain both m k.closer) (ending names) (ends_filled true) false))))
      (λ c e.
      let b : BeginsWithValue c (ahead T) = ahead-some T c e in
      let cs : List Code = rest_of (ahead T) in
      let line : escapes c ≡ true → is_line_ending b.code ≡ false = λ h. escapes-line b.code.value (ap escapes b.value ∙ h) in
      if-step P (escapes c) _ _
      (λ h. Goes-kept W 12 3 (q true) (q false) (Consume ∷ []) (rested s) T (Next TitleInside) (within TitleInside) alone refl (some-codes T c e) (omega arith)
      (ap (q true) b.whole ∙ (elim (takes b.code) as (λ z. takes b.code ≡ z → q true (b.code ∷ cs) ≡ preceded (Consume ∷ []) (q false cs)) [
        | true ↦ λ t. insides-taken (is_value m) takes bare (title-plain both m k.closer) (ending names) (ends_filled true) (ends_filled true) b.code cs t (line h) (λ text. filled-data b.code text (line h))
        | false ↦ λ t.
            let slash = or_parts (b.code.value == 92) _ t in
            insides-bare (is_value m) takes bare (title-plain both m k.closer) (ending names) (ends_filled true) b.code cs t
            ∙ insides-next (is_value m) takes bare (title-plain both m k.closer) (ending names) (ends_filled true) (ends_filled true) false b.code cs (or_parts (is_value m b.code) _ slash.1).0 (or_parts (is_value m b.code) _ slash.1).1 (line h) slash.0 (λ text. filled-data b.code text (line h))
      ]) refl)
      (passed-ready T (some-codes T c e) k)
      (λ ok U x. x))
      (λ h. escape-goes T alone k (subst same (sym b.whole) (insides-bare (is_value m) takes bare (title-plain both m k.closer) (ending names) (ends_filled true) b.code cs (bare-code both m b.code.value k.closer (ap escapes b.value ∙ h) (b.code.value == m) refl)))))

  -- Between two stretches.

  nok-says : (T : Tokenizer) →
      break_plan (both_in T) 40 T.tokenize_state.marker (names_in T.tokenize_state) T.tokenize_state.connect (ahead T) ≡ None →
      (ok : Bool) (U : Tokenizer) → nok_ends T ok U → at_break_ends T ok U
  nok-says T e ok U x =
      DoesAs-fails 2 (break_plan (both_in T) 40 T.tokenize_state.marker (names_in T.tokenize_state) T.tokenize_state.connect) (rested T.tokenize_state) T e ok U x

  nok-goes : (n : ℕ) → 10 ≤ n → (T : Tokenizer) →
      break_plan (both_in T) 40 T.tokenize_state.marker (names_in T.tokenize_state) T.tokenize_state.connect (ahead T) ≡ None →
      FollowsIn W (weight_at n T) (at_break_ends T) (Next TitleNok) T
  nok-goes n high T e = follows W _ _ (Next TitleNok) (within TitleNok) T tt (omega (arith, high)) (nok-says T e)

  inside-says : (b : Bool) (T : Tokenizer) (ok : Bool) (U : Tokenizer) →
      inside_ends (scratched (joined T.tokenize_state) (done (enter_text b ∷ []) T)) ok U →
      DoesAs 3 (inside_plan (both_in T) 40 T.tokenize_state.marker (names_in T.tokenize_state) false) (rested T.tokenize_state) (scratched (joined T.tokenize_state) (done (enter_text b ∷ []) T)) ok U
  unfolding scratched applied
  inside-says b T ok U k = k

  -- data begins
  data-goes : (n : ℕ) → n ≡ 12 → (T : Tokenizer) → T.attempts ≡ [] → TitleBreakReady T →
      break_plan (both_in T) 40 T.tokenize_state.marker (names_in T.tokenize_state) T.tokenize_state.connect (ahead T) ≡ preceded (enter_text T.tokenize_state.connect ∷ []) (inside_plan (both_in T) 40 T.tokenize_state.marker (names_in T.tokenize_state) false (ahead T)) →
      GoesIn W (weight_at n T) (at_break_ends T) (stepped (Retry TitleInside) (text_entered T))
  data-goes n high T alone k same =
      let s : TokenizeState = T.tokenize_state in
      let connect : Bool = s.connect in
      let os : List Op = enter_text connect ∷ [] in
      let p : Plan = break_plan (both_in T) 40 s.marker (names_in s) connect in
      let q : Plan = inside_plan (both_in T) 40 s.marker (names_in s) false in
      let V : Tokenizer = text_entered T in
      let none : moves os ≡ 0 = moves-data connect in
      Goes-on W n 2 p q os (rested s) (joined s) T (Retry TitleInside) (within TitleInside) alone (stays-data connect) (omega (arith, none)) (omega (arith, none, high))
      (same ∙ ap (λ m. preceded os (q (drop m (ahead T)))) (sym none))
      (data-ready connect T k)
      (λ ok U x. depth-data connect (λ d. DoesAs d q (rested s) V ok U) (inside-says connect T ok U x))

  -- the text ends
  ends-goes : (n : ℕ) → 10 ≤ n → (T : Tokenizer) → T.attempts ≡ [] → TitleBreakReady T → (c : ℕ) → current_of T ≡ Some c →
      (c == T.tokenize_state.marker) ≡ true → next_is (is_value T.tokenize_state.marker) (ahead T) ≡ true →
      break_plan (both_in T) 40 T.tokenize_state.marker (names_in T.tokenize_state) T.tokenize_state.connect (ahead T) ≡ Some (ending (names_in T.tokenize_state)) →
      GoesIn W (weight_at n T) (at_break_ends T) (stepped (Retry TitleBegin) (done (Exit T.tokenize_state.token_3 ∷ []) T))
  unfolding applied
  ends-goes n high T alone k c e h here same =
      let s : TokenizeState = T.tokenize_state in
      let names : StringNames = names_in s in
      let os : List Op = Exit s.token_3 ∷ [] in
      Goes-kept W n 2 (break_plan (both_in T) 40 s.marker names s.connect) (begin_plan (both_in T) 40 s.marker names) os (rested s) T (Retry TitleBegin) (within TitleBegin) alone refl (no-codes T) (omega (arith, high, rank-closes T c e h))
      (same ∙ ap (preceded os) (sym (if-true (next_is (is_value s.marker) (ahead T)) (Some (closing names)) (preceded (Enter names.text ∷ []) (break_plan (both_in T) 40 s.marker names false (ahead T))) here)))
      (ended-ready T here k)
      (λ ok U x. x)

  -- behind a line ending and blank codes
  eol-goes : (n : ℕ) (T : Tokenizer) → TitleBreakReady T → (c : Code) (cs : List Code) → ahead T ≡ c ∷ cs → is_line_ending c ≡ true →
      (U : Tokenizer) → PassedEnding T.tokenize_state.connect c cs T U →
      FollowsIn W (weight_at n T) (at_break_ends T) (Next TitleAfterEol) U
  eol-goes n T k c cs whole line U j =
      let s : TokenizeState = T.tokenize_state in
      let m : ℕ = s.marker in
      let names : StringNames = names_in s in
      let p : Plan = break_plan (both_in T) 40 m names s.connect in
      let q : Plan = break_plan (both_in T) 40 m names true in
      let both : Bool = both_in T in
      let reads : p (ahead T) ≡ _ =
      ap p whole ∙ breaks-ending (is_value m) (escaped_between both 40 m) (is_bare_opener both 40) (title-plain both m k.closer) (ending names) (ends_filled true) (ends_filled true) s.connect c cs line j.filled (λ ws text w b. filled-ending c ws text line w b) in
      follows W _ _ (Next TitleAfterEol) (within TitleAfterEol) U (eol-ready c cs T U k j) (omega (arith, j.fewer))
      (λ ok V x. DoesAs-ending p q s.connect c cs (rested s) T U j reads ok V (same-rules U ok V j.scratch j.rules x))
    where
      same-rules : (U : Tokenizer) (ok : Bool) (V : Tokenizer) → U.tokenize_state ≡ T.tokenize_state → rules_in U ≡ rules_in T →
          after_eol_ends U ok V → DoesAs 2 (break_plan (both_in T) 40 T.tokenize_state.marker (names_in T.tokenize_state) true) (rested T.tokenize_state) U ok V
      same-rules U ok V e f x =
          subst (λ (r : TokenizeState). DoesAs 2 (break_plan (r.marker == 41 && (rules_in T).escaped_parentheses) 40 r.marker (names_in r) true) (rested r) U ok V) e
          (subst (λ (z : Rules). DoesAs 2 (break_plan (U.tokenize_state.marker == 41 && z.escaped_parentheses) 40 U.tokenize_state.marker (names_in U.tokenize_state) true) (rested U.tokenize_state) U ok V) f x)

  pub at_break-law : Law W at_break_words
  at_break-law T alone k =
      let s : TokenizeState = T.tokenize_state in
      let m : ℕ = s.marker in
      let names : StringNames = names_in s in
      let connect : Bool = s.connect in
      let both : Bool = both_in T in
      let takes : Code → Bool = escaped_between both 40 m in
      let bare : Code → Bool = is_bare_opener both 40 in
      let p : Plan = break_plan (both_in T) 40 m names connect in
      let n : ℕ = break_rank (current_of T) T in
      let high : 10 ≤ n = break-high (current_of T) T in
      let P : Stepped → Type 0 = GoesIn W (weight_at n T) (at_break_ends T) in
      code-step P (current_of T) (λ o. at_break_at o T)
      (λ e. Goes-plain W (weight_at n T) (at_break_ends T) (Retry TitleNok) (within TitleNok) T alone tt (omega (arith, high))
      (nok-says T (ap p (ahead-none T e) ∙ breaks-end (is_value m) takes bare (title-plain both m k.closer) (ending names) (ends_filled true) connect)))
      (λ c e.
      let b : BeginsWithValue c (ahead T) = ahead-some T c e in
      let cs : List Code = rest_of (ahead T) in
      if-step P (c == m) _ _
      (λ h. ends-goes n high T alone k c e h (ap (next_is (is_value m)) b.whole ∙ ap (λ v. v == m) b.value ∙ h)
      (ap p b.whole ∙ breaks-stop (is_value m) takes bare (title-plain both m k.closer) (ending names) (ends_filled true) connect b.code cs (ap (λ v. v == m) b.value ∙ h) refl))
      (λ h. if-step P (c == 10) _ _
      (λ g.
      let line : is_line_ending b.code ≡ true = ap (λ v. v == 10) b.value ∙ g in
      ending-law W (within SpaceOrTabEolStart) (weight_at n T) (at_break_ends T) TitleAfterEol TitleNok T c b alone k.text k.linked line (omega (arith, high)) (
        λ U now j. eol-goes n T k b.code cs b.whole line U j,
        λ u. nok-goes n high T (ap p b.whole ∙ breaks-blank (is_value m) takes bare (title-plain both m k.closer) (ending names) (ends_filled true) connect b.code cs line u (λ ws d text w l. filled-none b.code ws d text line w l)),
      ))
      (λ g.
      let line : is_line_ending b.code ≡ false = ap (λ v. v == 10) b.value ∙ g in
      let stop : (b.code.value == m) ≡ false = ap (λ v. v == m) b.value ∙ h in
      let q : Bool → Plan = inside_plan (both_in T) 40 m names in
      if-step P (is_refused c T) _ _
      (λ f. Goes-plain W (weight_at n T) (at_break_ends T) (Retry TitleNok) (within TitleNok) T alone tt (omega (arith, high))
      (nok-says T (ap p b.whole ∙ breaks-refused (is_value m) takes bare (title-plain both m k.closer) (ending names) (ends_filled true) connect b.code cs stop (ap (λ v. both && v == 40) b.value ∙ f))))
      (λ f.
      let single : is_bare_opener both 40 b.code ≡ false = ap (λ v. both && v == 40) b.value ∙ f in
      data-goes n (rank-goes T c e h g f) T alone k
      (ap p b.whole ∙ breaks-data (is_value m) takes bare (title-plain both m k.closer) (ending names) (ends_filled true) (ends_filled true) connect (c == 92) b.code cs stop single line (ap (λ v. v == 92) b.value) (λ text. filled-data b.code text line)
      ∙ preceded-twice (enter_text connect ∷ []) (Consume ∷ []) (q (c == 92) cs)
      ∙ ap (preceded (enter_text connect ∷ [])) (sym (ap (q false) b.whole ∙ insides-next (is_value m) takes bare (title-plain both m k.closer) (ending names) (ends_filled true) (ends_filled true) (c == 92) b.code cs stop single line (ap (λ v. v == 92) b.value) (λ text. filled-data b.code text line))))))))

  -- From the start.

  begin-goes : (n : ℕ) → n ≡ 13 → (T : Tokenizer) → T.attempts ≡ [] → BeginReady T →
      next_is (is_value T.tokenize_state.marker) (ahead T) ≡ false →
      GoesIn W (weight_at n T) (begin_ends T) (beginning T)
  unfolding applied
  begin-goes n high T alone k h =
      let s : TokenizeState = T.tokenize_state in
      let names : StringNames = names_in s in
      let V : Tokenizer = done (Enter names.text ∷ []) T in
      Goes-kept W n 1 (begin_plan (both_in T) 40 s.marker names) (break_plan (both_in T) 40 s.marker names s.connect) (Enter names.text ∷ []) (rested s) T (Retry TitleAtBreak) (within TitleAtBreak) alone refl (no-codes T) (omega (arith, high, break-low (current_of V) V))
      (if-false _ _ _ h ∙ ap (λ b. preceded (Enter names.text ∷ []) (break_plan (both_in T) 40 s.marker names b (ahead T))) (sym (k.first h)))
      (entered-ready T k h)
      (λ ok U x. x)

  pub begin-law : Law W begin_words
  begin-law T alone k =
      let s : TokenizeState = T.tokenize_state in
      let m : ℕ = s.marker in
      let names : StringNames = names_in s in
      let n : ℕ = begin_rank (current_of T) T in
      let P : Stepped → Type 0 = GoesIn W (weight_at n T) (begin_ends T) in
      code-step P (current_of T) (λ o. begin_at o T)
      (λ e. begin-goes n (ap (λ o. begin_rank o T) e) T alone k (ap (next_is (is_value m)) (ahead-none T e)))
      (λ c e.
      let b : BeginsWithValue c (ahead T) = ahead-some T c e in
      let here : next_is (is_value m) (ahead T) ≡ (c == m) = ap (next_is (is_value m)) b.whole ∙ ap (λ v. v == m) b.value in
      if-step P (c == m) _ _
      (λ h. Goes-ok W n 1 (begin_plan (both_in T) 40 m names) (closing names) (rested s) T alone (if-true _ _ _ (here ∙ h)))
      (λ h. begin-goes n (ap (λ o. begin_rank o T) e ∙ ap (λ b. if b then 9 else 13) h) T alone k (here ∙ h)))

  begin-says : (m : ℕ) (T : Tokenizer) → rested T.tokenize_state ≡ T.tokenize_state → (ok : Bool) (U : Tokenizer) →
      begin_ends (scratched (begun m T.tokenize_state) (done (opening (names_in T.tokenize_state)) T)) ok U →
      DoesAs 1 (begin_plan (m == 41 && (rules_in T).escaped_parentheses) 40 m (names_in T.tokenize_state)) T.tokenize_state (scratched (begun m T.tokenize_state) (done (opening (names_in T.tokenize_state)) T)) ok U
  unfolding scratched applied
  begin-says m T e ok U k =
      subst (λ q. DoesAs 1 (begin_plan (m == 41 && (rules_in T).escaped_parentheses) 40 m (names_in T.tokenize_state)) q (scratched (begun m T.tokenize_state) (done (opening (names_in T.tokenize_state)) T)) ok U) e k

  opens : (m : ℕ) (T : Tokenizer) → T.attempts ≡ [] → TitleStartReady T → 1 ≤ length (ahead T) → is_closer m ≡ true →
      plan_of (title (rules_in T).escaped_parentheses (names_in T.tokenize_state)) (ahead T) ≡ preceded (opening (names_in T.tokenize_state)) (begin_plan (m == 41 && (rules_in T).escaped_parentheses) 40 m (names_in T.tokenize_state) (drop 1 (ahead T))) →
      GoesIn W (weight_at 11 T) (KeepsAs 0 (plan_of (title (rules_in T).escaped_parentheses (names_in T.tokenize_state))) T) (opened m T)
  opens m T alone k more h same =
      let s : TokenizeState = T.tokenize_state in
      let names : StringNames = names_in s in
      let V : Tokenizer = scratched (begun m s) (done (opening names) T) in
      Goes-on W 11 0 (plan_of (title (rules_in T).escaped_parentheses names)) (begin_plan (m == 41 && (rules_in T).escaped_parentheses) 40 m names) (opening names) s (begun m s) T (Next TitleBegin) (within TitleBegin) alone refl more (omega (arith, begin-low (current_of V) V))
      same
      (begun-ready m T more h k)
      (λ ok U x. begin-says m T k.rest ok U x)

  pub start-law : Law W start_words
  start-law T alone k =
      let s : TokenizeState = T.tokenize_state in
      let names : StringNames = names_in s in
      let both : Bool = (rules_in T).escaped_parentheses in
      let p : Plan = plan_of (title both names) in
      let E : Bool → Tokenizer → Type 0 = KeepsAs 0 p T in
      let P : Stepped → Type 0 = GoesIn W (weight_at 11 T) E in
      GoesOn-map W (weight_at 11 T) E (start_ends T) (start_step T) (λ ok U x. EndsAs-linked (title both names) (title-linked both names) s T ok U x)
      (code-step P (current_of T) (λ o. start_at o T)
      (λ e. Goes-no W 11 0 p T alone (ap p (ahead-none T e) ∙ title-none both names [] refl refl refl))
      (λ c e.
      let b : BeginsWithValue c (ahead T) = ahead-some T c e in
      let cs : List Code = rest_of (ahead T) in
      let more : 1 ≤ length (ahead T) = some-codes T c e in
      if-step P (c == 34) _ _
      (λ h. opens 34 T alone k more refl (ap p b.whole ∙ title-double both names b.code cs (ap (λ v. v == 34) b.value ∙ h)))
      (λ h. if-step P (c == 39) _ _
      (λ g. opens 39 T alone k more refl (ap p b.whole ∙ title-single both names b.code cs (ap (λ v. v == 39) b.value ∙ g)))
      (λ g. if-step P (c == 40) _ _
      (λ f. opens 41 T alone k more refl (ap p b.whole ∙ title-paren both names b.code cs (ap (λ v. v == 40) b.value ∙ f)))
      (λ f. Goes-no W 11 0 p T alone
      (ap p b.whole ∙ title-none both names (b.code ∷ cs) (ap (λ v. v == 34) b.value ∙ h) (ap (λ v. v == 39) b.value ∙ g) (ap (λ v. v == 40) b.value ∙ f)))))))

-- of these states, and of any other as it is given
pub laws : (W : Words) → EqualsLayer states_and_called W → (t : StateName → StateWords) → AreLawful W t →
    AreLawful W (states t)
laws W within t other H.TitleStart = start-law W within
laws W within t other H.TitleBegin = begin-law W within
laws W within t other H.TitleAtBreak = at_break-law W within
laws W within t other H.TitleAfterEol = after_eol-law W within
laws W within t other H.TitleInside = inside-law W within
laws W within t other H.TitleEscape = escape-law W within
laws W within t other H.TitleNok = nok-law W within
laws W within t other s = other s
