-- The laws of the states of a character reference.
use Rattle.std.proofs.Common.{◌≡◌, ℕ, ◌+◌, ◌≤◌, ◌==◌, ◌&&◌, ◌||◌, nat_lt, Bool, true, false, List, [], ◌∷◌, ◌++◌, drop, length, Some, refl, sym, ap, subst, ◌∙◌, arith, length-append, inl, inr}
use Rattle.std.specs.Prelude.{codes}
use Rattle.std.specs.List.{list_all}
use Rattle.std.proofs.Math.Bool.{or-false, and-false}
use Rattle.std.specs.Borrow.{Bor}
use Rattle.markdown_content.specs.Codes.{Code}
use Rattle.markdown_content.specs.CommonMark.{rules_of}
use Rattle.markdown_content.specs.declared.configuration.ParseOptions.{ParseOptions}
use Rattle.markdown_content.specs.declared.parser.ParseState.{ParseState}
use Rattle.markdown_content.specs.ListFunctions.{rest_of}
use Rattle.markdown_engine.specs.Operations.{Op, Consume, applied, current_of, ahead, done, scratched}
use Rattle.markdown_engine.specs.StateRuns.{Stepped, stepped}
use Rattle.markdown_engine.specs.Weights.{weight_at}
use Rattle.markdown_event.specs.declared.event.Name.{Name}
use Rattle.markdown_event.specs.declared.event.Name.TheVariants as N
use Rattle.markdown_event.specs.declared.state.State.TheVariants.{Next, Retry}
use Rattle.markdown_event.specs.declared.state.StateName.{StateName}
use Rattle.markdown_event.specs.declared.state.StateName.TheVariants as H
use Rattle.markdown_event.specs.declared.state.StateName.TheVariants.{CharacterReferenceOpen, CharacterReferenceNumeric, CharacterReferenceValue}
use Rattle.markdown_engine.specs.declared.tokenizer.TokenizeState.{TokenizeState}
use Rattle.markdown_engine.specs.declared.tokenizer.Tokenizer.{Tokenizer}
use Rattle.markdown_engine.proofs.LawSteps.{if-step, code-step}
use Rattle.markdown_engine.proofs.OperationFields.{law_rules, ahead-none, ahead-some, input-scratched, scratch-scratched, some-codes}
use Rattle.markdown_engine.proofs.OperationLemmas.{input-done, scratch-done}
use Rattle.markdown_model.specs.CodeTests.{is_value, is_among, next_is}
use Rattle.markdown_model.specs.Grammar.{◌>>◌, provided}
use Rattle.markdown_model.specs.Setting.{references_of}
use Rattle.markdown_model.specs.LeafConstructs.{character_reference}
use Rattle.markdown_util.proofs.ReferenceTables.{named_sound}
use Rattle.markdown_util.specs.Reference.{Table, IsTable, known_names, IsReferenceMarker, value_size_max, is_value_byte}
use Rattle.markdown_leaf.specs.CharacterReference.{IsAtRest, IsOpened, IsValue, is_on, references_here, marked, sized, rested, opening, number_sign, hexadecimal_sign, value_start, closing, is_known, is_taken, read_of, start_at, start_step, named_step, open_at, decimal_step}
use Rattle.markdown_leaf.specs.CharacterReference.{numeric_at, value_at, reference_here, value_plan, numeric_plan, open_plan, start_ends, open_ends, numeric_ends, value_ends, states, numeric_words, open_words, start_words, value_words}
use Rattle.markdown_plan.specs.Plan.{Plan, preceded, plan_of, DoesAs, KeepsAs}
use Rattle.markdown_leaf.proofs.CharacterReferenceBytes.{read-more, read-none}
use Rattle.markdown_leaf.proofs.CharacterReferenceReadings.{reference-start, no-reference, value-close, value-more, value-end, value-stop}
use Rattle.markdown_plan.proofs.PlanSteps.{EndsAs-plan, no-codes}
use Rattle.markdown_model.proofs.GrammarSteps.{and-left, and-right, if-true, if-false}
use Rattle.markdown_model.proofs.PlainConstructs.{reads_switched, reads_character_reference}
use Rattle.markdown_plan.proofs.SolidReadings.{ReadsSolid, plain-reads}
use Rattle.markdown_engine.specs.StateWords.{StateWords, Words, Law, GoesIn}
use Rattle.markdown_plan.proofs.LawStepsOfLayer.{GoesOn-map, Goes-on, Goes-kept, Goes-next, Goes-ok, Goes-nok, Goes-no}
use Rattle.markdown_plan.specs.LayerEquation.{EqualsLayer, AreLawful}

whole : (on : Bool) (names : Table) → ReadsSolid (provided on >> character_reference names)
whole on names =
    plain-reads [] _ (reads_switched [] on (character_reference names) (reads_character_reference [] names))

-- The names.

pub references-sound : (o : ParseOptions) → IsTable (references_of o)
references-sound o = named_sound (known_names (rules_of o).html_names)

here-sound : (T : Tokenizer) → IsTable (references_here T)
here-sound T = references-sound T.parse_state.now.options.now

abbrev names-by : Bor ParseState → Table
names-by p = references_of p.now.options.now

-- operations and scratch fields do not change them
names-done : (os : List Op) (T : Tokenizer) → references_here (done os T) ≡ references_here T
names-done os T = ap names-by (input-done os T)

names-scratched : (s : TokenizeState) (os : List Op) (T : Tokenizer) → references_here (scratched s (done os T)) ≡ references_here T
names-scratched s os T = ap names-by (input-scratched s (done os T) ∙ input-done os T)

-- The scratch fields.

rested-same : (s : TokenizeState) → s.marker ≡ 0 → s.size ≡ 0 → rested s ≡ s
rested-same s e h =
    subst (λ m. record s { marker = m; size = 0 } ≡ s) e (subst (λ n. record s { marker = s.marker; size = n } ≡ s) h refl)

opened-done : (T : Tokenizer) → IsAtRest T → IsOpened (done opening T)
opened-done T r =
    record { whole = grind (arith, law_rules); marker = ap (λ (s : TokenizeState). s.marker) (scratch-done opening T) ∙ r.marker; size = ap (λ (s : TokenizeState). s.size) (scratch-done opening T) ∙ r.size }

numbered-done : (T : Tokenizer) → IsOpened T → IsOpened (done number_sign T)
numbered-done T o =
    record { whole = grind (arith, law_rules, o.whole); marker = ap (λ (s : TokenizeState). s.marker) (scratch-done number_sign T) ∙ o.marker; size = ap (λ (s : TokenizeState). s.size) (scratch-done number_sign T) ∙ o.size }

-- on in the value, of this kind
value-from : (m : ℕ) (os : List Op) (T : Tokenizer) → IsOpened T → (ok : Bool) (U : Tokenizer) →
    value_ends (scratched (marked m T.tokenize_state) (done os T)) ok U →
    DoesAs 2 (value_plan (references_here T) m []) (rested T.tokenize_state) (scratched (marked m T.tokenize_state) (done os T)) ok U
value-from m os T o ok U k =
    let V : Tokenizer = scratched (marked m T.tokenize_state) (done os T) in
    let now : V.tokenize_state ≡ marked m T.tokenize_state = scratch-scratched (marked m T.tokenize_state) (done os T) in
    let none : read_of V ≡ [] = read-none V (ap (λ (s : TokenizeState). s.size) now ∙ o.size) in
    subst (λ (names : Table). DoesAs 2 (value_plan names m []) (rested T.tokenize_state) V ok U) (names-scratched (marked m T.tokenize_state) os T)
    (subst (λ (read : List ℕ). DoesAs 2 (value_plan (references_here V) m read) (rested T.tokenize_state) V ok U) none
    (subst (λ (s : TokenizeState). DoesAs 2 (value_plan (references_here V) s.marker (read_of V)) (rested s) V ok U) now k))

-- in a value of this kind
is-value : (m : ℕ) (V : Tokenizer) (s : TokenizeState) (more : List Name) →
    V.stack ≡ N.CharacterReferenceValue ∷ N.CharacterReference ∷ more → V.tokenize_state ≡ marked m s → s.size ≡ 0 →
    IsReferenceMarker m → IsValue V
is-value m V s more e now z k =
    let size : V.tokenize_state.size ≡ 0 = ap (λ (q : TokenizeState). q.size) now ∙ z in
    let none : read_of V ≡ [] = read-none V size in
    record {
      count = ap length none ∙ sym size;
      passed = ap (list_all (is_value_byte V.tokenize_state.marker)) none;
      value = e ∙ ap (λ ns. N.CharacterReferenceValue ∷ rest_of ns) (sym e);
      whole = ap rest_of e ∙ ap (λ ns. N.CharacterReference ∷ rest_of (rest_of ns)) (sym e);
      marker = subst (λ (q : TokenizeState). IsReferenceMarker q.marker) (sym now) k;
      size = omega (arith, size);
    }

started : (m : ℕ) (T : Tokenizer) → IsOpened T →
    (scratched (marked m T.tokenize_state) (done value_start T)).stack ≡ N.CharacterReferenceValue ∷ N.CharacterReference ∷ rest_of T.stack
started m T o = grind (arith, law_rules, o.whole)

signed : (T : Tokenizer) → IsOpened T →
    (scratched (marked 120 T.tokenize_state) (done hexadecimal_sign T)).stack ≡ N.CharacterReferenceValue ∷ N.CharacterReference ∷ rest_of T.stack
signed T o = grind (arith, law_rules, o.whole)

less-more : (n max : ℕ) → nat_lt n max ≡ true → n + 1 ≤ max
less-more n max e = grind arith

taken-room : (m n c : ℕ) → is_taken m n c ≡ true → n + 1 ≤ value_size_max m
unfolding is_taken
taken-room m n c e = less-more n (value_size_max m) (and-left _ _ e)

all-more : (m : ℕ) (xs : List ℕ) (c : ℕ) → list_all (is_value_byte m) xs ≡ true → is_value_byte m c ≡ true →
    list_all (is_value_byte m) (xs ++ c ∷ []) ≡ true
all-more m [] c e h = ap (λ b. b && true) h
all-more m (x ∷ xs) c e h =
    ap (λ b. b && list_all (is_value_byte m) (xs ++ c ∷ [])) (and-left _ _ e) ∙ all-more m xs c (and-right _ _ e) h

taken-byte : (m n c : ℕ) → is_taken m n c ≡ true → is_value_byte m c ≡ true
unfolding is_taken
taken-byte m n c e = and-right _ _ e

-- one code further on in the value
value-on : (T : Tokenizer) → IsValue T → (c : ℕ) → current_of T ≡ Some c →
    is_taken T.tokenize_state.marker T.tokenize_state.size c ≡ true →
    IsValue (scratched (sized (T.tokenize_state.size + 1) T.tokenize_state) (done (Consume ∷ []) T))
unfolding scratched applied
value-on T v c here e =
    let s : TokenizeState = T.tokenize_state in
    let more : read_of (scratched (sized (s.size + 1) s) (done (Consume ∷ []) T)) ≡ read_of T ++ c ∷ [] = read-more T c here in
    record {
      count = ap length more ∙ length-append (read_of T) (c ∷ []) ∙ ap (λ n. n + 1) v.count;
      passed = ap (list_all (is_value_byte s.marker)) more ∙ all-more s.marker (read_of T) c v.passed (taken-byte s.marker s.size c e);
      value = v.value;
      whole = v.whole;
      marker = v.marker;
      size = taken-room s.marker s.size c e;
    }

sign-test : (c : Code) → is_among (codes "xX") c ≡ (c.value == 120) || (c.value == 88)
sign-test c = ap (λ b. (c.value == 120) || b) (or-false (c.value == 88))

-- The states.

module _ (W : Words) (within : EqualsLayer states W) where
  pub start-law : Law W start_words
  start-law T alone rest =
      let p : Plan = plan_of (reference_here T) in
      let E : Bool → Tokenizer → Type 0 = KeepsAs 0 p T in
      let P : Stepped → Type 0 = GoesIn W (weight_at 4 T) E in
      let open_rest : IsOpened (done opening T) → rested (done opening T).tokenize_state ≡ (done opening T).tokenize_state =
      λ o. rested-same _ o.marker o.size in
      GoesOn-map W (weight_at 4 T) E (start_ends T) (start_step T) (λ ok U k. EndsAs-plan (reference_here T) (whole (is_on T) (references_here T)) T.tokenize_state T ok U k)
      (code-step P (current_of T) (λ o. start_at (is_on T) o T)
      (λ e. Goes-no W 4 0 p T alone (ap p (ahead-none T e) ∙ no-reference (references_here T) (is_on T) [] (and-false (is_on T))))
      (λ c e. let b = ahead-some T c e in
      if-step P (is_on T && (c == 38)) _ _
      (λ h. Goes-next W 4 0 p (open_plan (references_here T)) opening T (Next CharacterReferenceOpen) (within CharacterReferenceOpen) alone refl (some-codes T c e) (omega arith)
      (ap p b.whole ∙ reference-start (references_here T) (here-sound T) (is_on T) b.code (rest_of (ahead T)) (and-left _ _ h) (ap (λ v. v == 38) b.value ∙ and-right _ _ h))
      (opened-done T rest)
      (λ ok U k. subst (λ (names : Table). DoesAs 1 (open_plan names) (done opening T).tokenize_state (done opening T) ok U) (names-done opening T)
      (subst (λ (s : TokenizeState). DoesAs 1 (open_plan (references_here (done opening T))) s (done opening T) ok U) (open_rest (opened-done T rest)) k)))
      (λ h. Goes-no W 4 0 p T alone (ap p b.whole ∙ no-reference (references_here T) (is_on T) (b.code ∷ rest_of (ahead T)) (ap (λ v. is_on T && (v == 38)) b.value ∙ h)))))

  -- the start of a name
  named-law : (T : Tokenizer) → T.attempts ≡ [] → IsOpened T → next_is (is_value 35) (ahead T) ≡ false →
      GoesIn W (weight_at 3 T) (open_ends T) (named_step T)
  named-law T alone o none =
      let V : Tokenizer = scratched (marked 38 T.tokenize_state) (done value_start T) in
      Goes-on W 3 1 (open_plan (references_here T)) (value_plan (references_here T) 38 []) value_start (rested T.tokenize_state) (marked 38 T.tokenize_state) T (Retry CharacterReferenceValue) (within CharacterReferenceValue) alone refl (no-codes T) (omega arith)
      (if-false _ _ _ none)
      (is-value 38 V T.tokenize_state (rest_of T.stack) (started 38 T o) (scratch-scratched _ _) o.size (inl refl))
      (λ ok U k. value-from 38 value_start T o ok U k)

  pub open-law : Law W open_words
  open-law T alone o =
      let P : Stepped → Type 0 = GoesIn W (weight_at 3 T) (open_ends T) in
      code-step P (current_of T) (λ x. open_at x T)
      (λ e. named-law T alone o (ap (next_is (is_value 35)) (ahead-none T e)))
      (λ c e. let b = ahead-some T c e in
      if-step P (c == 35) _ _
      (λ h. Goes-kept W 3 1 (open_plan (references_here T)) (numeric_plan (references_here T)) number_sign (rested T.tokenize_state) T (Next CharacterReferenceNumeric) (within CharacterReferenceNumeric) alone refl (some-codes T c e) (omega arith)
      (ap (open_plan (references_here T)) b.whole ∙ if-true _ _ _ (ap (λ v. v == 35) b.value ∙ h) ∙ ap (λ cs. preceded number_sign (numeric_plan (references_here T) (drop 1 cs))) (sym b.whole))
      (numbered-done T o)
      (λ ok U k. subst (λ (names : Table). DoesAs 1 (numeric_plan names) (rested T.tokenize_state) (done number_sign T) ok U) (names-done number_sign T)
      (subst (λ (s : TokenizeState). DoesAs 1 (numeric_plan (references_here (done number_sign T))) (rested s) (done number_sign T) ok U) (scratch-done number_sign T) k)))
      (λ h. named-law T alone o (ap (next_is (is_value 35)) b.whole ∙ ap (λ v. v == 35) b.value ∙ h)))

  -- decimal digits
  decimal-law : (T : Tokenizer) → T.attempts ≡ [] → IsOpened T → next_is (is_among (codes "xX")) (ahead T) ≡ false →
      GoesIn W (weight_at 2 T) (numeric_ends T) (decimal_step T)
  decimal-law T alone o none =
      let V : Tokenizer = scratched (marked 35 T.tokenize_state) (done value_start T) in
      Goes-on W 2 1 (numeric_plan (references_here T)) (value_plan (references_here T) 35 []) value_start (rested T.tokenize_state) (marked 35 T.tokenize_state) T (Retry CharacterReferenceValue) (within CharacterReferenceValue) alone refl (no-codes T) (omega arith)
      (if-false _ _ _ none)
      (is-value 35 V T.tokenize_state (rest_of T.stack) (started 35 T o) (scratch-scratched _ _) o.size (inr (inl refl)))
      (λ ok U k. value-from 35 value_start T o ok U k)

  pub numeric-law : Law W numeric_words
  numeric-law T alone o =
      let P : Stepped → Type 0 = GoesIn W (weight_at 2 T) (numeric_ends T) in
      let V : Tokenizer = scratched (marked 120 T.tokenize_state) (done hexadecimal_sign T) in
      code-step P (current_of T) (λ x. numeric_at x T)
      (λ e. decimal-law T alone o (ap (next_is (is_among (codes "xX"))) (ahead-none T e)))
      (λ c e. let b = ahead-some T c e in
      if-step P ((c == 120) || (c == 88)) _ _
      (λ h. Goes-on W 2 1 (numeric_plan (references_here T)) (value_plan (references_here T) 120 []) hexadecimal_sign (rested T.tokenize_state) (marked 120 T.tokenize_state) T (Next CharacterReferenceValue) (within CharacterReferenceValue) alone refl (some-codes T c e) (omega arith)
      (ap (numeric_plan (references_here T)) b.whole ∙ if-true _ _ _ (sign-test b.code ∙ ap (λ v. (v == 120) || (v == 88)) b.value ∙ h) ∙ ap (λ cs. preceded hexadecimal_sign (value_plan (references_here T) 120 [] (drop 1 cs))) (sym b.whole))
      (is-value 120 V T.tokenize_state (rest_of T.stack) (signed T o) (scratch-scratched _ _) o.size (inr (inr refl)))
      (λ ok U k. value-from 120 hexadecimal_sign T o ok U k))
      (λ h. decimal-law T alone o (ap (next_is (is_among (codes "xX"))) b.whole ∙ sign-test b.code ∙ ap (λ v. (v == 120) || (v == 88)) b.value ∙ h)))

  -- on past a code of the value
  taken-law : (T : Tokenizer) → T.attempts ≡ [] → IsValue T → (c : ℕ) → current_of T ≡ Some c →
      is_taken T.tokenize_state.marker T.tokenize_state.size c ≡ true →
      GoesIn W (weight_at 1 T) (value_ends T) (stepped (Next CharacterReferenceValue) (scratched (sized (T.tokenize_state.size + 1) T.tokenize_state) (done (Consume ∷ []) T)))
  taken-law T alone v c e t =
      let s : TokenizeState = T.tokenize_state in
      let read : List ℕ = read_of T in
      let p : Plan = value_plan (references_here T) s.marker read in
      let V : Tokenizer = scratched (sized (s.size + 1) s) (done (Consume ∷ []) T) in
      let b = ahead-some T c e in
      let taken : is_taken s.marker (length read) b.code.value ≡ true = ap (λ n. is_taken s.marker n b.code.value) v.count ∙ ap (is_taken s.marker s.size) b.value ∙ t in
      let more : read_of V ≡ read ++ b.code.value ∷ [] = read-more T c e ∙ ap (λ x. read ++ x ∷ []) (sym b.value) in
      let now : V.tokenize_state ≡ sized (s.size + 1) s = scratch-scratched (sized (s.size + 1) s) (done (Consume ∷ []) T) in
      Goes-on W 1 2 p (value_plan (references_here T) s.marker (read ++ b.code.value ∷ [])) (Consume ∷ []) (rested s) (sized (s.size + 1) s) T (Next CharacterReferenceValue) (within CharacterReferenceValue) alone refl (some-codes T c e) (omega arith)
      (ap p b.whole ∙ value-more (references_here T) s.marker read b.code (rest_of (ahead T)) taken ∙ ap (λ cs. preceded (Consume ∷ []) (value_plan (references_here T) s.marker (read ++ b.code.value ∷ []) (drop 1 cs))) (sym b.whole))
      (value-on T v c e t)
      (λ ok U k. subst (λ (q : TokenizeState). DoesAs 2 (value_plan (references_here T) q.marker (read ++ b.code.value ∷ [])) (rested q) V ok U) now
      (subst (λ (xs : List ℕ). DoesAs 2 (value_plan (references_here T) V.tokenize_state.marker xs) (rested V.tokenize_state) V ok U) more
      (subst (λ (names : Table). DoesAs 2 (value_plan names V.tokenize_state.marker (read_of V)) (rested V.tokenize_state) V ok U) (names-scratched (sized (s.size + 1) s) (Consume ∷ []) T) k)))

  pub value-law : Law W value_words
  value-law T alone v =
      let s : TokenizeState = T.tokenize_state in
      let read : List ℕ = read_of T in
      let p : Plan = value_plan (references_here T) s.marker read in
      let P : Stepped → Type 0 = GoesIn W (weight_at 1 T) (value_ends T) in
      let size : s.size ≡ length read = sym v.count in
      code-step P (current_of T) (λ x. value_at x T)
      (λ e. Goes-nok W 1 2 p (rested s) T alone (ap p (ahead-none T e) ∙ value-end (references_here T) s.marker read))
      (λ c e. let b = ahead-some T c e in
      if-step P (((c == 59) && nat_lt 0 s.size) && is_known (references_here T) s.marker read) _ _
      (λ h. let ends : (c == 59) && nat_lt 0 s.size ≡ true = and-left _ _ h in
      Goes-ok W 1 2 p closing (rested s) T alone (ap p b.whole ∙ value-close (references_here T) s.marker read b.code (rest_of (ahead T)) (ap (λ x. x == 59) b.value ∙ and-left _ _ ends) (ap (nat_lt 0) (sym size) ∙ and-right _ _ ends) (and-right _ _ h) (subst (λ n. n ≤ value_size_max s.marker) size v.size)))
      (λ h. if-step P (is_taken s.marker s.size c) _ _
      (λ t. taken-law T alone v c e t)
      (λ t. Goes-nok W 1 2 p (rested s) T alone (ap p b.whole ∙ value-stop (references_here T) s.marker read b.code (rest_of (ahead T)) (ap (λ x. ((x == 59) && nat_lt 0 (length read)) && is_known (references_here T) s.marker read) b.value ∙ ap (λ n. ((c == 59) && nat_lt 0 n) && is_known (references_here T) s.marker read) (sym size) ∙ h) (ap (λ n. is_taken s.marker n b.code.value) (sym size) ∙ ap (is_taken s.marker s.size) b.value ∙ t)))))

-- of these states, and of any other as it is given
pub laws : (W : Words) → EqualsLayer states W → (t : StateName → StateWords) → AreLawful W t → AreLawful W (states t)
laws W within t other H.CharacterReferenceStart = start-law W within
laws W within t other H.CharacterReferenceOpen = open-law W within
laws W within t other H.CharacterReferenceNumeric = numeric-law W within
laws W within t other H.CharacterReferenceValue = value-law W within
laws W within t other s = other s
