-- Where no run of a size is left, no span of that size closes.
use Rattle.std.proofs.lemmas.Bool.{and_left, eq-eqb}
use Rattle.std.proofs.lemmas.List.{drop-drop}
use Rattle.std.proofs.Common.{◌≡◌, ℕ, zero, suc, ◌+◌, ◌≤◌, ◌==◌, Bool, true, false, ◌&&◌, ◌||◌, not, if◌then◌else◌, Option, Some, None, List, [], ◌∷◌, ◌++◌, length, drop, refl, sym, ap, subst, ◌∙◌, arith}
use Rattle.markdown_content.specs.Codes.{Code, is_line_ending}
use Rattle.markdown_content.specs.ListFunctions.{rest_of}
use Rattle.markdown_engine.specs.Operations.{Op, Enter, Exit, Consume, ahead, current_of}
use Rattle.markdown_content.specs.Place.{ahead_at}
use Rattle.markdown_event.specs.declared.event.Name.TheVariants as N
use Rattle.markdown_notes.specs.RunIndex.{leading, last_run_from, last_run, begins_before, rules_out}
use Rattle.markdown_engine.specs.declared.tokenizer.Tokenizer.{Tokenizer}
use Rattle.markdown_engine.specs.TreeOps.{consumes}
use Rattle.markdown_engine.proofs.OperationFields.{ahead-some, BeginsWithValue}
use Rattle.markdown_notes.proofs.RunIndexFacts.{later-none, none-after, ruled-out}
use Rattle.markdown_model.specs.CodeTests.{is_value, is_some_code, next_is}
use Rattle.markdown_model.specs.Grammar.{span}
use Rattle.markdown_model.specs.LeafConstructs.{SpanNames, closing_run, closing, code_names, math_names}
use Rattle.markdown_model.specs.SingleConstructs.{follows_escape}
use Rattle.markdown_model.specs.TextLines.{stretches}
use Rattle.markdown_model.proofs.GrammarSteps.{and-left, and-right}
use Rattle.markdown_leaf.proofs.RawTextReadings.{other-value, flipped, not-right, agree-marker, agree-data, ending-alone, code-opens, math-opens-here, no-span}
use Rattle.markdown_leaf.proofs.RawTextLaws.{barred-is}
use Rattle.markdown_plan.proofs.FirstStretch.{stretch-alone, stretch-span}
use Rattle.markdown_plan.proofs.PlanSteps.{none-read}
use Rattle.markdown_plan.specs.Plan.{plan_of, preceded}
use Rattle.markdown_leaf.specs.RawText.{IsIndexed, is_barred, is_ruled_out, is_data, closed_ops, opens, opening_plan, span_at, code_just_before, code_is_on, math_is_on, single_dollar}

-- The first stretch is not the closing run.
closing-skip : (p : Code → Bool) (n : ℕ) (s : List Code) (ss : List (List Code)) →
    (next_is p s && length s == n) ≡ false → closing_run p n ss ≡ None → closing_run p n (s ∷ ss) ≡ None
unfolding closing_run
closing-skip p n s ss h e = rw (h, e, closing_run) refl

-- Runs.

span-rest : (p : Code → Bool) (cs : List Code) → length (span p cs).1 ≤ length cs
span-rest p [] = omega arith
span-rest p (c ∷ cs) =
    elim (p c) as (λ b. length (elim b as (λ _. List Code × List Code) [ true ↦ let s = span p cs in (c ∷ s.0, s.1) | false ↦ ([], c ∷ cs) ]).1 ≤ length (c ∷ cs)) [
      | true ↦ let less : length (span p cs).1 ≤ length cs = span-rest p cs in omega (arith, less)
      | false ↦ omega arith
    ]

module _ (m : ℕ) where
  -- the codes of a run
  run-rest : (cs : List Code) → (span (is_value m) cs).1 ≡ drop (leading m cs) cs
  run-rest [] = refl
  run-rest (c ∷ cs) =
      elim (c.value == m) as (λ b. (c.value == m) ≡ b → (elim b as (λ _. List Code × List Code) [ true ↦ let s = span (is_value m) cs in (c ∷ s.0, s.1) | false ↦ ([], c ∷ cs) ]).1 ≡ drop (if b then suc (leading m cs) else 0) (c ∷ cs)) [
        | true ↦ λ h. run-rest cs
        | false ↦ λ h. refl
      ] refl

  pub run-length : (cs : List Code) → length (span (is_value m) cs).0 ≡ leading m cs
  run-length [] = refl
  run-length (c ∷ cs) =
      elim (c.value == m) as (λ b. (c.value == m) ≡ b → length (elim b as (λ _. List Code × List Code) [ true ↦ let s = span (is_value m) cs in (c ∷ s.0, s.1) | false ↦ ([], c ∷ cs) ]).0 ≡ (if b then suc (leading m cs) else 0)) [
        | true ↦ λ h. let same : length (span (is_value m) cs).0 ≡ leading m cs = run-length cs in ap suc same
        | false ↦ λ h. refl
      ] refl

  past-leading : (cs : List Code) → leading m (drop (leading m cs) cs) ≡ 0
  past-leading [] = refl
  past-leading (c ∷ cs) =
      elim (c.value == m) as (λ b. (c.value == m) ≡ b → leading m (drop (if b then suc (leading m cs) else 0) (c ∷ cs)) ≡ 0) [
        | true ↦ λ h. past-leading cs
        | false ↦ λ h. ap (λ b. if b then suc (leading m cs) else 0) h
      ] refl

  leading-more : (c : Code) (cs : List Code) → is_value m c ≡ true → leading m (c ∷ cs) ≡ suc (leading m cs)
  leading-more c cs h = ap (λ b. if b then suc (leading m cs) else 0) h

  module _ (n : ℕ) where
    -- past another code
    none-past : (c : Code) (cs : List Code) → is_value m c ≡ false → last_run m n (c ∷ cs) ≡ None →
        last_run m n cs ≡ None
    none-past c cs h e =
        sym (ap (λ b. last_run_from m n b cs) h) ∙ (later-none (last_run_from m n (c.value == m) cs) (true && (c.value == m && leading m (c ∷ cs) == n)) e).0

    -- past codes that are others
    none-past-all : (q : Code → Bool) → ((c : Code) → q c ≡ true → is_value m c ≡ false) → (cs : List Code) →
        last_run m n cs ≡ None → last_run m n (span q cs).1 ≡ None
    none-past-all q other [] e = e
    none-past-all q other (c ∷ cs) e =
        elim (q c) as (λ b. q c ≡ b → last_run m n (elim b as (λ _. List Code × List Code) [ true ↦ let s = span q cs in (c ∷ s.0, s.1) | false ↦ ([], c ∷ cs) ]).1 ≡ None) [
          | true ↦ λ h. none-past-all q other cs (none-past c cs (other c h) e)
          | false ↦ λ h. e
        ] refl

    -- past a run
    none-past-run : (c : Code) (cs : List Code) → is_value m c ≡ true → last_run m n (c ∷ cs) ≡ None →
        last_run m n (span (is_value m) cs).1 ≡ None
    none-past-run c cs h e =
        let size : ℕ = leading m (c ∷ cs) in
        let rest : (span (is_value m) cs).1 ≡ drop size (c ∷ cs) = run-rest cs ∙ ap (λ r. drop r (c ∷ cs)) (sym (leading-more c cs h)) in
        ap (last_run m n) rest ∙ none-after m n size (c ∷ cs) (last_run m n (drop size (c ∷ cs))) (past-leading (c ∷ cs)) (ap (λ o. begins_before size o) e) refl

    -- the run at hand has another size
    other-size : (c : Code) (cs : List Code) → is_value m c ≡ true → last_run m n (c ∷ cs) ≡ None →
        (is_value m c && length (c ∷ (span (is_value m) cs).0) == n) ≡ false
    other-size c cs h e =
        ap (λ k. is_value m c && k == n) (sized (length (span (is_value m) cs).0) (leading m cs) (run-length cs) ∙ sym (leading-more c cs h))
        ∙ (later-none (last_run_from m n (c.value == m) cs) (true && (c.value == m && leading m (c ∷ cs) == n)) e).1
      where
        sized : (a b : ℕ) → a ≡ b → suc a ≡ suc b
        sized a b k = ap suc k

    -- Stretch by stretch.
    module _ (e : (m == 10) ≡ false) where
      -- fewer codes than these close no span
      abbrev FewerClose : List Code → Type 0
      FewerClose cs =
          (ds : List Code) → length ds ≤ length cs → last_run m n ds ≡ None → closing (is_value m) n ds ≡ None

      at-ending : (c : Code) (cs : List Code) → FewerClose cs → last_run m n (c ∷ cs) ≡ None → is_line_ending c ≡ true →
          closing (is_value m) n (c ∷ cs) ≡ None
      at-ending c cs fewer h k =
          let other : is_value m c ≡ false = other-value c.value 10 m (flipped m 10 e) k in
          ap (closing_run (is_value m) n) (stretch-alone (is_value m) c cs (ending-alone m code_names n c cs k))
          ∙ closing-skip (is_value m) n (c ∷ []) (stretches (is_value m) cs) (and_left (is_value m c) (length (c ∷ []) == n) other) (fewer cs (omega arith) (none-past c cs other h))

      at-marker : (c : Code) (cs : List Code) → FewerClose cs → last_run m n (c ∷ cs) ≡ None → is_value m c ≡ true →
          closing (is_value m) n (c ∷ cs) ≡ None
      at-marker c cs fewer h g =
          let rest : List Code = (span (is_value m) cs).1 in
          ap (closing_run (is_value m) n) (stretch-span (is_value m) (is_value m) (λ a b k. agree-marker m code_names n e a b k) c cs g)
          ∙ closing-skip (is_value m) n (c ∷ (span (is_value m) cs).0) (stretches (is_value m) rest) (other-size c cs g h) (fewer rest (span-rest (is_value m) cs) (none-past-run c cs g h))

      at-data : (c : Code) (cs : List Code) → FewerClose cs → last_run m n (c ∷ cs) ≡ None → is_line_ending c ≡ false →
          is_value m c ≡ false → closing (is_value m) n (c ∷ cs) ≡ None
      at-data c cs fewer h k g =
          let q : Code → Bool = is_data m code_names n in
          let rest : List Code = (span q cs).1 in
          ap (closing_run (is_value m) n) (stretch-span (is_value m) q (λ a b x. agree-data m code_names n a b x) c cs (neither (is_line_ending c) (is_value m c) k g))
          ∙ closing-skip (is_value m) n (c ∷ (span q cs).0) (stretches (is_value m) rest) (and_left (is_value m c) (length (c ∷ (span q cs).0) == n) g) (fewer rest (span-rest q cs) (none-past-all q (λ x y. not-right (is_line_ending x) (is_value m x) y) cs (none-past c cs g h)))
        where
          neither : (a b : Bool) → a ≡ false → b ≡ false → not (a || b) ≡ true
          neither true b x y = cc
          neither false true x y = cc
          neither false false x y = refl

      at-code : (c : Code) (cs : List Code) → FewerClose cs → last_run m n (c ∷ cs) ≡ None →
          closing (is_value m) n (c ∷ cs) ≡ None
      at-code c cs fewer h =
          elim (is_line_ending c) as (λ b. is_line_ending c ≡ b → closing (is_value m) n (c ∷ cs) ≡ None) [
            | true ↦ λ k. at-ending c cs fewer h k
            | false ↦ λ k. elim (is_value m c) as (λ b. is_value m c ≡ b → closing (is_value m) n (c ∷ cs) ≡ None) [
              | true ↦ λ g. at-marker c cs fewer h g
              | false ↦ λ g. at-data c cs fewer h k g
            ] refl
          ] refl

      absent-from : (fuel : ℕ) (cs : List Code) → length cs ≤ fuel → last_run m n cs ≡ None →
          closing (is_value m) n cs ≡ None
      unfolding closing_run
      absent-from fuel [] l h = refl
      absent-from zero (c ∷ cs) l h = absurd (none-left (length cs) l)
        where
          none-left : (k : ℕ) → suc k ≤ 0 → ⊥
          none-left k g = omega (arith, g)
      absent-from (suc fuel) (c ∷ cs) l h = at-code c cs (λ ds g k. absent-from fuel ds (omega (arith, g, l)) k) h

      closing-absent : (cs : List Code) → last_run m n cs ≡ None → closing (is_value m) n cs ≡ None
      closing-absent cs h = absent-from (length cs) cs (omega arith) h

-- Past an opening run that no run of its size follows.

if-none : {A : Type 0} (b : Bool) → ◌≡◌ {A = Option A} (if b then None else None) None
if-none true = refl
if-none false = refl

opening-none : (single : Bool) (m : ℕ) (names : SpanNames) (c : Code) (cs : List Code) → (m == 10) ≡ false → is_value m c ≡ true →
    last_run m (leading m (c ∷ cs)) (drop (leading m (c ∷ cs)) (c ∷ cs)) ≡ None → opening_plan single m names 1 cs ≡ None
opening-none single m names c cs e h absent =
    let s : List Code × List Code = span (is_value m) cs in
    let more : leading m (c ∷ cs) ≡ suc (leading m cs) = leading-more m c cs h in
    let size : suc (leading m cs) ≡ 1 + length s.0 = omega (arith, run-length m cs) in
    let here : last_run m (1 + length s.0) s.1 ≡ None =
    ap (λ xs. last_run m (1 + length s.0) xs) (run-rest m cs) ∙ ap (λ n. last_run m n (drop (leading m cs) cs)) (sym size)
    ∙ ap (λ n. last_run m n (drop n (c ∷ cs))) (sym more) ∙ absent in
    ap (λ o. if opens single m (1 + length s.0) then preceded (consumes s.0 ++ Exit names.sequence ∷ []) (closed_ops names o) else None) (closing-absent m (1 + length s.0) e s.1 here)
    ∙ if-none (opens single m (1 + length s.0))

-- what is known rules a run as long out behind the one at hand
none-follows : (m : ℕ) (T : Tokenizer) → IsIndexed T →
    rules_out T.tokenize_state.runs m (leading m (ahead T)) (T.cursor.at + leading m (ahead T)) ≡ true →
    last_run m (leading m (ahead T)) (drop (leading m (ahead T)) (ahead T)) ≡ None
unfolding ahead_at
none-follows m T right h =
    let n : ℕ = leading m (ahead T) in
    let there : drop n (ahead T) ≡ drop (T.cursor.at + n) T.cursor.codes = drop-drop n T.cursor.at T.cursor.codes in
    ap (last_run m n) there
    ∙ ruled-out T.tokenize_state.runs T.cursor.codes m n (T.cursor.at + n) right h (ap (leading m) (sym there) ∙ past-leading m (ahead T))

-- Where a span is ruled out none is read.

-- what is off
and-off : (a b c : Bool) → b ≡ false → a && (b && c) ≡ false
and-off true true c e = cc
and-off true false c e = refl
and-off false b c e = refl

free-so : (m : ℕ) (T : Tokenizer) → is_ruled_out m T ≡ true →
    (follows_escape T.events || not (is_some_code (is_value m) (code_just_before T))) ≡ true
free-so m T h = sym (barred-is m T) ∙ and-left (not (is_barred m T)) _ h

opening-ruled : (m : ℕ) (names : SpanNames) (T : Tokenizer) → (m == 10) ≡ false → IsIndexed T → (b : BeginsWithValue m (ahead T)) →
    is_ruled_out m T ≡ true → opening_plan (single_dollar T) m names 1 (rest_of (ahead T)) ≡ None
opening-ruled m names T e right b h =
    opening-none (single_dollar T) m names b.code (rest_of (ahead T)) e (ap (λ v. v == m) b.value ∙ eq-eqb m m refl)
    (subst (λ cs. last_run m (leading m cs) (drop (leading m cs) cs) ≡ None) b.whole (none-follows m T right (and-right (not (is_barred m T)) _ h)))

-- no span of a marker: where it is off none is read, and where it is on the opening run is all that is there
ruled-out-span : (m : ℕ) (names : SpanNames) (on : Bool) (opening : List Op) (T : Tokenizer) → (m == 10) ≡ false → IsIndexed T →
    (b : BeginsWithValue m (ahead T)) → is_ruled_out m T ≡ true
    → (on ≡ true → plan_of (span_at T) (b.code ∷ rest_of (ahead T)) ≡ preceded opening (opening_plan (single_dollar T) m names 1 (rest_of (ahead T))))
    → (on ≡ false → plan_of (span_at T) (b.code ∷ rest_of (ahead T)) ≡ None) → span_at T (ahead T) ≡ None
ruled-out-span m names on opening T e right b h opens closed =
    none-read (span_at T (ahead T)) (ap (plan_of (span_at T)) b.whole ∙ by_switch on refl)
  where
    by_switch : (o : Bool) → on ≡ o → plan_of (span_at T) (b.code ∷ rest_of (ahead T)) ≡ None
    by_switch true k = opens k ∙ ap (preceded opening) (opening-ruled m names T e right b h)
    by_switch false k = closed k

pub code-ruled-out : (T : Tokenizer) → IsIndexed T → current_of T ≡ Some 96 → is_ruled_out 96 T ≡ true →
    span_at T (ahead T) ≡ None
code-ruled-out T right here h =
    let b : BeginsWithValue 96 (ahead T) = ahead-some T 96 here in
    ruled-out-span 96 code_names (code_is_on T) (Enter N.CodeText ∷ Enter N.CodeTextSequence ∷ Consume ∷ []) T refl right b h
    (λ on. code-opens (code_is_on T) (math_is_on T) (single_dollar T) (follows_escape T.events) (code_just_before T) b.code (rest_of (ahead T)) (ap (λ v. v == 96) b.value) on (free-so 96 T h))
    (λ off. no-span (code_is_on T) (math_is_on T) (single_dollar T) (follows_escape T.events) (code_just_before T) (b.code ∷ rest_of (ahead T))
    (and-off (b.code.value == 96) (code_is_on T) _ off) (ap (λ v. (v == 36) && (math_is_on T && (follows_escape T.events || not (is_some_code (is_value 36) (code_just_before T))))) b.value))

pub math-ruled-out : (T : Tokenizer) → IsIndexed T → current_of T ≡ Some 36 → is_ruled_out 36 T ≡ true →
    span_at T (ahead T) ≡ None
math-ruled-out T right here h =
    let b : BeginsWithValue 36 (ahead T) = ahead-some T 36 here in
    ruled-out-span 36 math_names (math_is_on T) (Enter N.MathText ∷ Enter N.MathTextSequence ∷ Consume ∷ []) T refl right b h
    (λ on. math-opens-here (code_is_on T) (math_is_on T) (single_dollar T) (follows_escape T.events) (code_just_before T) b.code (rest_of (ahead T)) (ap (λ v. v == 36) b.value) on (free-so 36 T h))
    (λ off. no-span (code_is_on T) (math_is_on T) (single_dollar T) (follows_escape T.events) (code_just_before T) (b.code ∷ rest_of (ahead T))
    (ap (λ v. (v == 96) && (code_is_on T && (follows_escape T.events || not (is_some_code (is_value 96) (code_just_before T))))) b.value) (and-off (b.code.value == 36) (math_is_on T) _ off))
