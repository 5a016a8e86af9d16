-- The law of the start of a label's end.
use Rattle.std.proofs.Common.{◌≡◌, ℕ, ◌+◌, ◌<◌, ◌==◌, Bool, true, false, ◌&&◌, not, Some, None, List, [], ◌∷◌, ◌++◌, length, slice_get, refl, sym, ap, subst, ◌∙◌, arith, length-append}
use Rattle.std.proofs.Math.Bool.{and-false}
use Rattle.markdown_content.specs.Codes.{Code}
use Rattle.markdown_engine.specs.FailedRun.{Fails}
use Rattle.markdown_content.specs.ListFunctions.{rest_of}
use Rattle.markdown_engine.specs.Operations.{ahead, current_of, done, scratched}
use Rattle.markdown_engine.specs.PastTree.{past, appended_from}
use Rattle.markdown_content.specs.Place.{moved}
use Rattle.markdown_engine.specs.StateRuns.{Stepped, stepped}
use Rattle.markdown_engine.specs.StateWords.{Words, Law, GoesIn}
use Rattle.markdown_content.specs.Tree.{Forest, leaf}
use Rattle.markdown_engine.specs.Weights.{codes_left, weight_at}
use Rattle.markdown_event.specs.declared.event.Event.{Event}
use Rattle.markdown_event.specs.declared.event.Name.TheVariants as N
use Rattle.markdown_event.specs.declared.state.State.TheVariants.{Next, Retry, Nok}
use Rattle.markdown_event.specs.declared.state.StateName.TheVariants.{LabelEndAfter, LabelEndNok}
use Rattle.markdown_content.specs.declared.label_kind.LabelKind.{LabelKind}
use Rattle.markdown_engine.specs.declared.tokenizer.LabelStart as Kept
use Rattle.markdown_engine.specs.declared.tokenizer.TokenizeState.{TokenizeState}
use Rattle.markdown_engine.specs.declared.tokenizer.Tokenizer.{Tokenizer}
use Rattle.markdown_engine.proofs.ReadingSequences.{then-fails}
use Rattle.markdown_engine.proofs.LawSteps.{Grown-refl, if-step, code-step}
use Rattle.markdown_engine.proofs.OperationFields.{BeginsWithValue, ahead-some, left-ahead}
use Rattle.markdown_engine.proofs.OperationLemmas.{Grown-scratched}
use Rattle.markdown_event.proofs.AndParts.{and-left, and-right}
use Rattle.markdown_engine.proofs.SolidTrees.{IsSolid-group, IsSolid-leaf}
use Rattle.markdown_engine.proofs.TreeEvents.{ahead-past, ops-past}
use Rattle.markdown_plan.specs.LayerEquation.{EqualsLayer}
use Rattle.markdown_plan.specs.Characters.{bytes_of, later_value}
use Rattle.markdown_plan.proofs.LawStepsOfLayer.{Goes-end, Goes-plain}
use Rattle.markdown_plan.proofs.ContentCharacters.{text-past}
use Rattle.markdown_plan.proofs.CharacterPlaces.{code-begins}
use Rattle.markdown_model.specs.CodeTests.{is_value, is_later_byte, next_is}
use Rattle.markdown_model.specs.Grammar.{Reading, ◌>>=◌, gives, one}
use Rattle.markdown_model.specs.LabelEnd.{label_name}
use Rattle.markdown_model.proofs.GrammarSteps.{bind-some, bind-none, one-here, one-not, switched-on, switched-off, if-true, if-false}
use Rattle.markdown_label.specs.LabelFields.{bars, as_link, loosened}
use Rattle.std.specs.Str.{IsCharBoundary}
use Rattle.std.proofs.lemmas.Bool.{eqb-true, true≢false}
use Rattle.markdown_event.specs.declared.event.Point.{Point}
use Rattle.markdown_label.specs.LabelEnd.{EndsBetween, end_ops, ended_at, ended, start_by, is_on, start_at, AllEndBetween, LabelEndStartReady, AfterReady, after_reading_of, after_reading, after_ends, nok_ends, lost_here, end_tree, outcome_by, end_reading, lost_starts, lost_by, lost_fields, end_made, start_ends, start_words, states_and_called}
use Rattle.markdown_label_names.specs.LabelNames.{AreAround, point_or, place_at, label_between}
use Rattle.markdown_model.specs.SingleConstructs.{outcome}
use Rattle.markdown_label_names.specs.LabelSetting.{setting_in}
use Rattle.markdown_label.proofs.LabelEndLemmas.{Fails-lost}
use Rattle.markdown_label.proofs.NextCodeTests.{at-value, at-none}
use Rattle.markdown_label.proofs.KeptStartStack.{place-front}

-- Where events stand.

get-there : {A : Type 0} → (xs ys : List A) (y : A) → slice_get (xs ++ y ∷ ys) (length xs) ≡ Some y
get-there [] ys y = refl
get-there (x ∷ xs) ys y = get-there xs ys y

place-there : (xs ys : List Event) (y : Event) → place_at (xs ++ y ∷ ys) (length xs) ≡ y.point
place-there xs ys y = ap point_or (get-there xs ys y)

-- The reading, by what stands there.

abbrev makes : List Kept.LabelStart → Tokenizer → List Code → Reading (List Code × (LabelKind × Forest))
makes ls T back = outcome_by ls T back >>= λ o. gives (back, o)

pub reading-at : (T : Tokenizer) (x : Code) (cs : List Code) → is_on T ≡ true → ahead T ≡ x ∷ cs →
    is_value 93 x ≡ true → end_reading T (ahead T) ≡ makes T.tokenize_state.label_starts T (x ∷ []) cs
reading-at T x cs on whole e =
    ap (end_reading T) whole
    ∙ switched-on (one (is_value 93) >>= λ back. makes T.tokenize_state.label_starts T back) (is_on T) (x ∷ cs) on
    ∙ bind-some (one (is_value 93)) (makes T.tokenize_state.label_starts T) (x ∷ cs) (x ∷ []) cs _ (one-here (is_value 93) x cs e) refl

reading-off : (T : Tokenizer) → is_on T ≡ false → end_reading T (ahead T) ≡ None
reading-off T off = switched-off _ (is_on T) (ahead T) off

reading-other : (T : Tokenizer) (b : Bool) → is_on T ≡ b → next_is (is_value 93) (ahead T) ≡ false →
    end_reading T (ahead T) ≡ None
reading-other T true on e =
    switched-on _ (is_on T) (ahead T) on ∙ bind-none (one (is_value 93)) _ (ahead T) (one-not (is_value 93) (ahead T) e)
reading-other T false off e = reading-off T off

-- The end's own events.

end-past : (T : Tokenizer) (x : Code) (cs : List Code) → ahead T ≡ x ∷ cs →
    done end_ops (ended T) ≡ past None (end_tree (x ∷ [])) (ended T)
unfolding scratched
end-past T x cs whole =
    ops-past (end_tree (x ∷ [])) cs (ended T) (IsSolid-group N.LabelEnd (leaf N.LabelMarker (x ∷ [])) (λ e. cc) (IsSolid-leaf N.LabelMarker (x ∷ []))) whole

module _ (T : Tokenizer) (x : Code) (cs : List Code) (whole : ahead T ≡ x ∷ cs) where
  -- past the end's own events
  abbrev P : Tokenizer
  P = past None (end_tree (x ∷ [])) (ended T)

  ahead-there : ahead P ≡ cs
  unfolding scratched
  ahead-there = ahead-past None (end_tree (x ∷ [])) (ended T) cs whole

  left-there : codes_left P + 1 ≡ codes_left T
  left-there = omega (arith, left-ahead P, left-ahead T, ap length ahead-there, ap length whole)

  name-there : (l : Kept.LabelStart) → l.start.1 < length T.events →
      label_between P l.kind l.start.1 P.tokenize_state.end ≡ label_name (setting_in T) l.kind (place_at T.events l.start.1).index x.start.index
  unfolding past scratched moved
  name-there l within =
      let front : place_at P.events l.start.1 ≡ place_at T.events l.start.1 = place-front T.events (appended_from (length T.events) None (end_tree (x ∷ []))) l.start.1 within in
      let back : place_at P.events (length T.events) ≡ x.start = place-there T.events _ _ in
      λ i. label_name (setting_in T) l.kind (front i).index (back i).index

  reads-there : (l : Kept.LabelStart) (ls : List Kept.LabelStart) → T.tokenize_state.label_starts ≡ l ∷ ls →
      l.start.1 < length T.events → bars l ≡ false →
      after_reading P (ahead P) ≡ outcome_by T.tokenize_state.label_starts T (x ∷ []) cs
  unfolding past scratched moved
  reads-there l ls e within active =
      let s = setting_in T in
      ap (λ y. after_reading_of y P (ahead P)) e
      ∙ ap (λ y. outcome s l.kind y (ahead P)) (name-there l within)
      ∙ ap (outcome s l.kind (label_name s l.kind (place_at T.events l.start.1).index x.start.index)) ahead-there
      ∙ sym (ap (λ y. outcome_by y T (x ∷ []) cs) e ∙ switched-on (outcome s l.kind (label_name s l.kind (place_at T.events l.start.1).index x.start.index)) (not (bars l)) cs (ap not active))

  first-within : (ls : List Kept.LabelStart) → AllEndBetween T ls → (m : Kept.LabelStart) (ms : List Kept.LabelStart) →
      ls ≡ m ∷ ms → EndsBetween T m
  first-within ls w m ms e = (subst (AllEndBetween T) e w).0

  -- what stands between the start and the end is whole characters
  around-there : (m : Kept.LabelStart) (ms : List Kept.LabelStart) → P.tokenize_state.label_starts ≡ m ∷ ms →
      LabelEndStartReady T → is_value 93 x ≡ true → AreAround P m.start.1 P.tokenize_state.end
  unfolding past scratched
  around-there m ms e k here =
      let w : EndsBetween T m = first-within T.tokenize_state.label_starts k.within.0 m ms e in
      let more : List Event = appended_from (length T.events) None (end_tree (x ∷ [])) in
      let front : place_at P.events m.start.1 ≡ place_at T.events m.start.1 = place-front T.events more m.start.1 w.within in
      let back : place_at P.events (length T.events) ≡ x.start = place-there T.events _ _ in
      let first : is_later_byte x ≡ false = ap later_value (eqb-true x.value 93 here) in
      record {
        listed = k.listed;
        text = k.text.text;
        own = (text-past None (end_tree (x ∷ [])) (ended_at (length T.events) T.tokenize_state) T k.text).own;
        first = omega (arith, w.within, length-append T.events more);
        last = omega (arith, length-append T.events more);
        from = subst (λ (p : Point). IsCharBoundary (bytes_of T) p.index) (sym front) w.between;
        to = subst (λ (q : Point). IsCharBoundary (bytes_of T) q.index) (sym back) (code-begins (bytes_of T) T.cursor x cs k.text whole first);
      }

  after-there : (l : Kept.LabelStart) (ls : List Kept.LabelStart) → T.tokenize_state.label_starts ≡ l ∷ ls →
      LabelEndStartReady T → is_value 93 x ≡ true → AfterReady P
  unfolding past scratched moved
  after-there l ls e k here =
      let f : TokenizeState → TokenizeState = ended_at (length T.events) in
      record {
        part = record {
          short = omega (arith, left-there, k.part.short);
          indexed = k.part.indexed;
          titled = k.part.titled;
          spaces = record { space = ap f k.part.spaces.space; eol = ap f k.part.spaces.eol };
          rest = ap f k.part.rest;
        };
        listed = k.listed;
        some = λ h. none-some l ls (sym e ∙ h);
        ordered = k.within.1;
        text = text-past None (end_tree (x ∷ [])) (ended_at (length T.events) T.tokenize_state) T k.text;
        around = λ m ms h. around-there m ms h k here;
        end = length-append T.events (appended_from (length T.events) None (end_tree (x ∷ [])));
      }
    where
      none-some : (l : Kept.LabelStart) (ls : List Kept.LabelStart) → l ∷ ls ≡ [] → ⊥
      none-some l ls h = cc

  lost-there : (l : Kept.LabelStart) (ls : List Kept.LabelStart) → T.tokenize_state.label_starts ≡ l ∷ ls →
      is_on T ≡ true → is_value 93 x ≡ true → lost_fields T ≡ loosened (lost_starts (l ∷ ls)) T.tokenize_state
  lost-there l ls e on here =
      if-true _ _ _ (ap (λ b. b && next_is (is_value 93) (ahead T)) on ∙ ap (next_is (is_value 93)) whole ∙ here)
      ∙ ap (λ y. lost_by y T.tokenize_state) e

  active-fields : (l : Kept.LabelStart) (ls : List Kept.LabelStart) → T.tokenize_state.label_starts ≡ l ∷ ls →
      bars l ≡ false →
      loosened (as_link P.tokenize_state.label_starts) P.tokenize_state ≡ loosened (lost_starts (l ∷ ls)) T.tokenize_state
  unfolding past scratched
  active-fields l ls e active =
      ap (λ ys. loosened (as_link ys) T.tokenize_state) e ∙ ap (λ ys. loosened ys T.tokenize_state) (sym (if-false _ _ _ active))

  barred-fields : (l : Kept.LabelStart) (ls : List Kept.LabelStart) → T.tokenize_state.label_starts ≡ l ∷ ls →
      bars l ≡ true →
      loosened (ended T).tokenize_state.label_starts (ended T).tokenize_state ≡ loosened (lost_starts (l ∷ ls)) T.tokenize_state
  unfolding scratched
  barred-fields l ls e barred = ap (λ ys. loosened ys T.tokenize_state) (e ∙ sym (if-true _ _ _ barred))

  lost-ended : Fails (loosened (ended T).tokenize_state.label_starts (ended T).tokenize_state) T (lost_here (ended T))
  lost-ended = let f = Fails-lost (ended T) in record { grown = Grown-scratched 0 _ T _ f.grown; scratch = f.scratch }

  ends-there : (l : Kept.LabelStart) (ls : List Kept.LabelStart) → T.tokenize_state.label_starts ≡ l ∷ ls →
      l.start.1 < length T.events → bars l ≡ false → is_on T ≡ true → is_value 93 x ≡ true →
      (ok : Bool) (U : Tokenizer) → after_ends P ok U → start_ends T ok U
  unfolding end_made gives
  ends-there l ls e within active on here true U k =
      record {
        back = x ∷ [];
        kind = k.kind;
        tail = k.tail;
        rest = k.rest;
        holds = reading-at T x cs on whole here ∙ bind-some (outcome_by T.tokenize_state.label_starts T (x ∷ [])) _ cs (k.kind, k.tail) k.rest _ (sym (reads-there l ls e within active) ∙ k.holds) refl;
        left = k.left;
        whole = whole ∙ ap (λ ys. x ∷ ys) (sym ahead-there ∙ k.whole);
        after = k.after;
      }
  ends-there l ls e within active on here false U k =
      record {
        refused = reading-at T x cs on whole here ∙ bind-none (outcome_by T.tokenize_state.label_starts T (x ∷ [])) _ cs (sym (reads-there l ls e within active) ∙ k.refused);
        fails = subst (λ s. Fails s T U) (active-fields l ls e active ∙ sym (lost-there l ls e on here)) (then-fails None (end_tree (x ∷ [])) _ _ T P U refl k.fails);
      }

  barred-there : (l : Kept.LabelStart) (ls : List Kept.LabelStart) → T.tokenize_state.label_starts ≡ l ∷ ls →
      bars l ≡ true → is_on T ≡ true → is_value 93 x ≡ true → (ok : Bool) (U : Tokenizer) → nok_ends (ended T) ok U →
      start_ends T ok U
  barred-there l ls e barred on here true U k = absurd (true≢false k.0)
  barred-there l ls e barred on here false U k =
      record {
        refused = reading-at T x cs on whole here ∙ bind-none (outcome_by T.tokenize_state.label_starts T (x ∷ [])) _ cs (ap (λ y. outcome_by y T (x ∷ []) cs) e ∙ switched-off _ (not (bars l)) cs (ap not barred));
        fails = subst (λ s. Fails s T U) (barred-fields l ls e barred ∙ sym (lost-there l ls e on here)) (subst (λ y. Fails (loosened (ended T).tokenize_state.label_starts (ended T).tokenize_state) T y) (sym k.1) lost-ended);
      }

module _ (W : Words) (within : EqualsLayer states_and_called W) where
  nok-here : (T : Tokenizer) → T.attempts ≡ [] → end_reading T (ahead T) ≡ None → lost_fields T ≡ T.tokenize_state →
      GoesIn W (weight_at 3 T) (start_ends T) (stepped Nok T)
  nok-here T alone none same = Goes-end W (weight_at 3 T) (start_ends T) false T alone (omega arith) fails
    where
      fails : (ok : Bool) (U : Tokenizer) → (ok ≡ false) × (U ≡ T) → start_ends T ok U
      fails true U h = absurd (true≢false h.0)
      fails false U h =
          record { refused = none; fails = subst (λ s. Fails s T U) (sym same) (subst (λ y. Fails T.tokenize_state T y) (sym h.1) (record { grown = Grown-refl 0 T; scratch = refl })) }

  other-here : (T : Tokenizer) → T.attempts ≡ [] → is_on T && next_is (is_value 93) (ahead T) ≡ false →
      end_reading T (ahead T) ≡ None → GoesIn W (weight_at 3 T) (start_ends T) (stepped Nok T)
  other-here T alone h none = nok-here T alone none (if-false _ _ _ h)

  by-switch : (T : Tokenizer) (b : Bool) → is_on T ≡ b → is_on T && next_is (is_value 93) (ahead T) ≡ false →
      end_reading T (ahead T) ≡ None
  by-switch T true on h = reading-other T true on (sym (ap (λ y. y && next_is (is_value 93) (ahead T)) on) ∙ h)
  by-switch T false off h = reading-off T off

  goes-after : (T : Tokenizer) → T.attempts ≡ [] → LabelEndStartReady T → is_on T ≡ true → (x : Code) (cs : List Code) →
      (whole : ahead T ≡ x ∷ cs) → is_value 93 x ≡ true → (l : Kept.LabelStart) (ls : List Kept.LabelStart) →
      T.tokenize_state.label_starts ≡ l ∷ ls → l.start.1 < length T.events → bars l ≡ false →
      GoesIn W (weight_at 3 T) (start_ends T) (stepped (Next LabelEndAfter) (past None (end_tree (x ∷ [])) (ended T)))
  unfolding past scratched
  goes-after T alone k on x cs whole here l ls e w h =
      let P : Tokenizer = past None (end_tree (x ∷ [])) (ended T) in
      Goes-plain W (weight_at 3 T) (start_ends T) (Next LabelEndAfter) (within LabelEndAfter) P alone (after-there T x cs whole l ls e k here) (omega (arith, left-there T x cs whole)) (ends-there T x cs whole l ls e w h on here)

  takes-start : (T : Tokenizer) → T.attempts ≡ [] → LabelEndStartReady T → is_on T ≡ true → (x : Code) (cs : List Code) →
      ahead T ≡ x ∷ cs → is_value 93 x ≡ true → (ls : List Kept.LabelStart) → T.tokenize_state.label_starts ≡ ls →
      AllEndBetween T ls → GoesIn W (weight_at 3 T) (start_ends T) (start_by ls T)
  unfolding scratched
  takes-start T alone k on x cs whole here [] e w =
      nok-here T alone (reading-at T x cs on whole here ∙ bind-none (outcome_by T.tokenize_state.label_starts T (x ∷ [])) _ cs (ap (λ y. outcome_by y T (x ∷ []) cs) e))
      (if-true _ _ _ (ap (λ b. b && next_is (is_value 93) (ahead T)) on ∙ ap (next_is (is_value 93)) whole ∙ here) ∙ ap (λ y. lost_by y T.tokenize_state) e)
  takes-start T alone k on x cs whole here (l ∷ ls) e w =
      let n : ℕ = weight_at 3 T in
      if-step (GoesIn W n (start_ends T)) (bars l) _ _
      (λ h. Goes-plain W n (start_ends T) (Retry LabelEndNok) (within LabelEndNok) (ended T) alone tt (omega arith) (barred-there T x cs whole l ls e h on here))
      (λ h. subst (λ (y : Tokenizer). GoesIn W n (start_ends T) (stepped (Next LabelEndAfter) y)) (sym (end-past T x cs whole)) (goes-after T alone k on x cs whole here l ls e w.0.within h))

  pub start-law : Law W start_words
  start-law T alone k =
      let P : Stepped → Type 0 = GoesIn W (weight_at 3 T) (start_ends T) in
      code-step P (current_of T) (λ o. start_at o T)
      (λ e. let h : is_on T && next_is (is_value 93) (ahead T) ≡ false = ap (λ b. is_on T && b) (at-none T 93 e) ∙ and-false (is_on T) in other-here T alone h (by-switch T (is_on T) refl h))
      (λ c e.
      let b : BeginsWithValue c (ahead T) = ahead-some T c e in
      if-step P (is_on T && (c == 93)) _ _
      (λ h. takes-start T alone k (and-left _ _ h) b.code (rest_of (ahead T)) b.whole (ap (λ v. v == 93) b.value ∙ and-right _ _ h) T.tokenize_state.label_starts refl k.within.0)
      (λ h. let g : is_on T && next_is (is_value 93) (ahead T) ≡ false = ap (λ y. is_on T && y) (at-value T c 93 (c == 93) e refl) ∙ h in other-here T alone g (by-switch T (is_on T) refl g)))
