-- The laws of the states of a run of markers.
use Rattle.std.proofs.Common.{◌≡◌, ℕ, ◌+◌, ◌==◌, Bool, true, false, Option, Some, None, List, ◌∷◌, ◌++◌, refl, sym, ap, subst, ◌∙◌, arith, append-nil, []}
use Rattle.std.proofs.lemmas.Bool.{eq-eqb}
use Rattle.markdown_content.specs.Codes.{Code}
use Rattle.markdown_content.specs.ListFunctions.{rest_of}
use Rattle.markdown_engine.specs.Operations.{Enter, Consume, ahead, applied, current_of, done, entered, exited, registered, scratched}
use Rattle.markdown_engine.specs.PastTree.{past, passed}
use Rattle.markdown_engine.specs.StateRuns.{Stepped}
use Rattle.markdown_engine.specs.StateWords.{StateWords, Words, GoesIn, Law}
use Rattle.markdown_content.specs.Tree.{Forest, leaf, leaf_codes}
use Rattle.markdown_engine.specs.Weights.{codes_left, weight_at}
use Rattle.markdown_model.specs.CodeTests.{is_empty, is_value}
use Rattle.markdown_model.specs.Elements.{attention_run, switched}
use Rattle.markdown_model.specs.Grammar.{◌>>◌, ◌>>=◌, provided, gives, some, span}
use Rattle.markdown_model.specs.LabelEnd.{Element, plain}
use Rattle.markdown_attention.specs.Attention.{switches_of, with_marker, start_at, left_run, leaving, inside_at, AttentionStartReady, AttentionInsideReady, run_tree, ReadsRun, start_ends, markers_ahead, inside_ends, start_words, inside_words, states}
use Rattle.markdown_model.specs.SingleConstructs.{begins_run, plain_tree}
use Rattle.markdown_event.specs.declared.event.Name.TheVariants as N
use Rattle.markdown_event.specs.declared.resolve.ResolveName.TheVariants as R
use Rattle.markdown_event.specs.declared.state.State.TheVariants.{Next, Retry}
use Rattle.markdown_event.specs.declared.state.StateName.{StateName}
use Rattle.markdown_event.specs.declared.state.StateName.TheVariants as H
use Rattle.markdown_event.specs.declared.state.StateName.TheVariants.{AttentionInside}
use Rattle.markdown_engine.specs.declared.tokenizer.TokenizeState.{TokenizeState}
use Rattle.markdown_engine.specs.declared.tokenizer.Tokenizer.{Tokenizer}
use Rattle.markdown_engine.proofs.ReadingSequences.{Refuses-done}
use Rattle.markdown_engine.proofs.LawSteps.{if-step, code-step}
use Rattle.markdown_engine.proofs.OperationFields.{BeginsWithValue, ahead-none, ahead-some, attempts-applied, attempts-scratched, attempts-registered, some-codes}
use Rattle.markdown_engine.proofs.OperationLemmas.{ahead-done, left-done}
use Rattle.markdown_engine.proofs.TreeEvents.{leaf-past, ahead-past}
use Rattle.markdown_plan.specs.LayerEquation.{EqualsLayer, AreLawful}
use Rattle.markdown_plan.proofs.PassedCodes.{passed-none, passed-one}
use Rattle.markdown_plan.proofs.PlanSteps.{ahead-scratched}
use Rattle.markdown_plan.proofs.LawStepsOfLayer.{Goes-plain, Goes-end, Goes-ops}
use Rattle.markdown_model.proofs.GrammarSteps.{span-takes, span-none}

-- The reading.

span-parts : (p : Code → Bool) (cs : List Code) → (span p cs).0 ++ (span p cs).1 ≡ cs
span-parts p [] = refl
span-parts p (c ∷ cs) = grind (arith, span-parts p cs)

-- a run of this marker, and the codes after it
abbrev run_of_parts : List Code × List Code → Option (Element × List Code)
run_of_parts s = elim (is_empty s.0) [ true ↦ None | false ↦ Some (plain (leaf N.AttentionSequence s.0), s.1) ]

run-parts : (m : ℕ) (cs : List Code) → switched true (attention_run m) cs ≡ run_of_parts (span (is_value m) cs)
unfolding switched attention_run some gives provided ◌>>◌ ◌>>=◌
run-parts m cs = grind arith

run-off : (m : ℕ) (cs : List Code) → switched false (attention_run m) cs ≡ None
unfolding switched provided ◌>>◌
run-off m cs = refl

run-reads : (m : ℕ) (on : Bool) (c : Code) (cs : List Code) → on ≡ true → (c.value == m) ≡ true
    → switched on (attention_run m) (c ∷ cs) ≡ Some (plain (leaf N.AttentionSequence (c ∷ (span (is_value m) cs).0)), (span (is_value m) cs).1)
run-reads m on c cs e h =
    ap (λ b. switched b (attention_run m) (c ∷ cs)) e ∙ run-parts m (c ∷ cs) ∙ ap run_of_parts (span-takes (is_value m) c cs h)

-- what is read is a whole construct
module _ (tree : Forest) (rest : List Code) where
  part-some : (b : Bool) (s : List Code × List Code)
      → plain_tree (elim b [ true ↦ None | false ↦ Some (plain (leaf N.AttentionSequence s.0), s.1) ]) ≡ Some (tree, rest)
      → ◌≡◌ {A = Option (Element × List Code)} (elim b [ true ↦ None | false ↦ Some (plain (leaf N.AttentionSequence s.0), s.1) ]) (Some (plain tree, rest))
  part-some true s e = cc
  part-some false s e = grind arith

  -- a run that is read is read as such an element
  pub run-some : (m : ℕ) (on : Bool) (cs : List Code) → plain_tree (switched on (attention_run m) cs) ≡ Some (tree, rest)
      → switched on (attention_run m) cs ≡ Some (plain tree, rest)
  run-some m true cs e =
      run-parts m cs ∙ part-some (is_empty (span (is_value m) cs).0) (span (is_value m) cs) (ap plain_tree (sym (run-parts m cs)) ∙ e)
  run-some m false cs e = let none = ap plain_tree (sym (run-off m cs)) ∙ e in cc

part-none : (b : Bool) (s : List Code × List Code)
    → plain_tree (elim b [ true ↦ None | false ↦ Some (plain (leaf N.AttentionSequence s.0), s.1) ]) ≡ None
    → ◌≡◌ {A = Option (Element × List Code)} (elim b [ true ↦ None | false ↦ Some (plain (leaf N.AttentionSequence s.0), s.1) ]) None
part-none true s e = refl
part-none false s e = cc

-- and one that is not read as a tree is not read
pub run-none : (m : ℕ) (on : Bool) (cs : List Code) → plain_tree (switched on (attention_run m) cs) ≡ None →
    switched on (attention_run m) cs ≡ None
run-none m true cs e =
    run-parts m cs ∙ part-none (is_empty (span (is_value m) cs).0) (span (is_value m) cs) (ap plain_tree (sym (run-parts m cs)) ∙ e)
run-none m false cs e = run-off m cs

-- the run of a marker at hand
pub run-at : (T : Tokenizer) (v : ℕ) (c : Code) (cs : List Code) → c.value ≡ v →
    run_tree T (c ∷ cs) ≡ plain_tree (switched (begins_run (switches_of T) v) (attention_run v) (c ∷ cs))
run-at T v c cs e = ap (λ n. plain_tree (switched (begins_run (switches_of T) n) (attention_run n) (c ∷ cs))) e

pub run-ahead : (T : Tokenizer) (v : ℕ) → current_of T ≡ Some v →
    run_tree T (ahead T) ≡ plain_tree (switched (begins_run (switches_of T) v) (attention_run v) (ahead T))
run-ahead T v e =
    let b : BeginsWithValue v (ahead T) = ahead-some T v e in
    ap (run_tree T) b.whole
    ∙ run-at T v b.code (rest_of (ahead T)) b.value
    ∙ ap (λ xs. plain_tree (switched (begins_run (switches_of T) v) (attention_run v) xs)) (sym b.whole)

-- What the operations leave.

scratch-consumed : (T : Tokenizer) → (done (Consume ∷ []) T).tokenize_state ≡ T.tokenize_state
unfolding applied
scratch-consumed T = refl

stack-consumed : (T : Tokenizer) → AttentionInsideReady T → AttentionInsideReady (done (Consume ∷ []) T)
unfolding applied
stack-consumed T h = h

-- entered, with its marker in the scratch fields
abbrev begun : ℕ → Tokenizer → Tokenizer
begun c T = scratched (with_marker c T.tokenize_state) (done (Enter N.AttentionSequence ∷ []) T)

begun-ready : (c : ℕ) (T : Tokenizer) → AttentionInsideReady (begun c T)
unfolding applied scratched
begun-ready c T = refl

begun-attempts : (c : ℕ) (T : Tokenizer) → (begun c T).attempts ≡ T.attempts
unfolding applied scratched
begun-attempts c T = refl

begun-left : (c : ℕ) (T : Tokenizer) → codes_left (begun c T) ≡ codes_left T
unfolding applied scratched
begun-left c T = refl

begun-markers : (c : ℕ) (T : Tokenizer) → markers_ahead (begun c T) ≡ (span (is_value c) (ahead T)).0
unfolding applied scratched
begun-markers c T = refl

-- the run from its first marker to its end
begun-past : (c : ℕ) (ms : List Code) (T : Tokenizer) → AttentionStartReady T → scratched (with_marker 0 (passed ms (begun c T)).tokenize_state) (exited N.AttentionSequence (passed ms (begun c T)))
    ≡ scratched T.tokenize_state (exited N.AttentionSequence (passed ms (entered N.AttentionSequence T)))
unfolding applied scratched passed
begun-past c ms T rest =
    ap (λ (q : TokenizeState). scratched q (exited N.AttentionSequence (passed ms (entered N.AttentionSequence T)))) (sym rest)

scratched-past : (tree : Forest) (s : TokenizeState) (T : Tokenizer) →
    scratched s (past None tree T) ≡ past None tree (scratched s T)
unfolding scratched past
scratched-past tree s T = refl

-- The states.

-- a run begins here: what is read, and where the run from it ends
run-begins : (T : Tokenizer) (c : ℕ) → current_of T ≡ Some c → begins_run (switches_of T) c ≡ true → AttentionStartReady T
    → (U : Tokenizer) → inside_ends (begun c T) true U → ReadsRun T U
run-begins T c e on rest U k =
    let b : BeginsWithValue c (ahead T) = ahead-some T c e in
    let cs : List Code = rest_of (ahead T) in
    let s : List Code × List Code = span (is_value c) cs in
    let ms : List Code = b.code ∷ s.0 in
    let tree : Forest = leaf N.AttentionSequence ms in
    let V : Tokenizer = past None tree (scratched T.tokenize_state T) in
    let marks : (b.code.value == c) ≡ true = ap (λ v. v == c) b.value ∙ eq-eqb c c refl in
    let taken : span (is_value c) (ahead T) ≡ (ms, s.1) = ap (span (is_value c)) b.whole ∙ span-takes (is_value c) b.code cs marks in
    let codes : ahead T ≡ ms ++ s.1 = b.whole ∙ ap (λ xs. b.code ∷ xs) (sym (span-parts (is_value c) cs)) in
    let whole : ahead T ≡ leaf_codes tree ++ s.1 = codes ∙ ap (λ xs. xs ++ s.1) (sym (append-nil ms)) in
    let markers : markers_ahead (begun c T) ≡ ms = begun-markers c T ∙ ap (λ (x : List Code × List Code). x.0) taken in
    let over : exited N.AttentionSequence (passed ms (entered N.AttentionSequence T)) ≡ past None tree T = leaf-past N.AttentionSequence None false b.code s.0 s.1 T codes in
    let left : left_run (passed (markers_ahead (begun c T)) (begun c T)) ≡ registered R.Attention V =
    ap (λ xs. left_run (passed xs (begun c T))) markers
    ∙ ap (registered R.Attention) (begun-past c ms T rest ∙ ap (scratched T.tokenize_state) over ∙ scratched-past tree T.tokenize_state T) in
    let reads : run_tree T (ahead T) ≡ Some (tree, s.1) =
    run-ahead T c e
    ∙ ap (λ xs. plain_tree (switched (begins_run (switches_of T) c) (attention_run c) xs)) b.whole
    ∙ ap plain_tree (run-reads c (begins_run (switches_of T) c) b.code cs on marks) in
    let ahead' : ahead (scratched T.tokenize_state T) ≡ leaf_codes tree ++ s.1 = ahead-scratched T.tokenize_state T ∙ whole in
    record {
      there = V;
      reads = record { tree = tree; rest = s.1; holds = reads; left = refl; whole = whole; after = ahead-past None tree (scratched T.tokenize_state T) s.1 ahead' };
      left = k ∙ left;
    }

run-begun : (T : Tokenizer) (c : ℕ) → current_of T ≡ Some c → begins_run (switches_of T) c ≡ true → AttentionStartReady T
    → (ok : Bool) (U : Tokenizer) → inside_ends (begun c T) ok U → start_ends T ok U
run-begun T c e on rest true U k = run-begins T c e on rest U k
run-begun T c e on rest false U k = absurd k

no-run : (T : Tokenizer) → run_tree T (ahead T) ≡ None → (ok : Bool) (U : Tokenizer) → (ok ≡ false) × (U ≡ T) →
    start_ends T ok U
no-run T none ok U x = subst (λ b. start_ends T b U) (sym x.0) (Refuses-done (run_tree T) [] T U refl none x.1)

pub start-law : (W : Words) → EqualsLayer states W → Law W start_words
start-law W within T alone rest =
    let n : ℕ = weight_at 2 T in
    let P : Stepped → Type 0 = GoesIn W n (start_ends T) in
    code-step P (current_of T) (λ o. start_at o T)
    (λ e. Goes-end W n (start_ends T) false T alone (omega arith) (no-run T (ap (run_tree T) (ahead-none T e))))
    (λ c e. if-step P (begins_run (switches_of T) c) _ _
    (λ on. let X : Tokenizer = begun c T in
    Goes-plain W n (start_ends T) (Retry AttentionInside) (within AttentionInside) X (begun-attempts c T ∙ alone) (begun-ready c T) (omega (arith, begun-left c T)) (run-begun T c e on rest))
    (λ off. Goes-end W n (start_ends T) false T alone (omega arith)
    (no-run T (run-ahead T c e ∙ ap (λ b. plain_tree (switched b (attention_run c) (ahead T))) off ∙ ap plain_tree (run-off c (ahead T))))))

-- In a run.

run-goes : (T : Tokenizer) (v : ℕ) → current_of T ≡ Some v → (v == T.tokenize_state.marker) ≡ true →
    (ok : Bool) (U : Tokenizer) → inside_ends (done (Consume ∷ []) T) ok U → inside_ends T ok U
run-goes T v e h false U k = absurd k
run-goes T v e h true U k =
    let b : BeginsWithValue v (ahead T) = ahead-some T v e in
    let m : ℕ = T.tokenize_state.marker in
    let X : Tokenizer = done (Consume ∷ []) T in
    let next : markers_ahead X ≡ (span (is_value m) (rest_of (ahead T))).0 =
    ap (λ (q : TokenizeState). (span (is_value q.marker) (ahead X)).0) (scratch-consumed T) ∙ ap (λ cs. (span (is_value m) cs).0) (ahead-done (Consume ∷ []) T) in
    let here : markers_ahead T ≡ b.code ∷ markers_ahead X = grind (arith, span-takes) in
    k ∙ ap left_run (sym (passed-one b.code (markers_ahead X) T) ∙ ap (λ cs. passed cs T) (sym here))

run-stops : (T : Tokenizer) (v : ℕ) → current_of T ≡ Some v → (v == T.tokenize_state.marker) ≡ false →
    markers_ahead T ≡ []
run-stops T v e h =
    let b : BeginsWithValue v (ahead T) = ahead-some T v e in
    let m : ℕ = T.tokenize_state.marker in
    ap (λ cs. (span (is_value m) cs).0) b.whole ∙ ap (λ (s : List Code × List Code). s.0) (span-none (is_value m) (b.code ∷ rest_of (ahead T)) (ap (λ x. x == m) b.value ∙ h))

run-left : (T : Tokenizer) → markers_ahead T ≡ [] → (ok : Bool) (U : Tokenizer) → (ok ≡ true) × (U ≡ left_run T) →
    inside_ends T ok U
run-left T e ok U x =
    subst (λ b. inside_ends T b U) (sym x.0) (x.1 ∙ ap left_run (sym (passed-none T) ∙ ap (λ cs. passed cs T) (sym e)))

left-attempts : (T : Tokenizer) → (left_run T).attempts ≡ T.attempts
left-attempts T = grind (arith, attempts-registered, attempts-scratched, attempts-applied)

pub inside-law : (W : Words) → EqualsLayer states W → Law W inside_words
inside-law W within T alone opened =
    let n : ℕ = weight_at 1 T in
    let P : Stepped → Type 0 = GoesIn W n (inside_ends T) in
    let leave : markers_ahead T ≡ [] → P (leaving T) = λ h. Goes-end W n (inside_ends T) true (left_run T) (left-attempts T ∙ alone) (omega arith) (run-left T h) in
    code-step P (current_of T) (λ o. inside_at o T)
    (λ e. leave (ap (λ cs. (span (is_value T.tokenize_state.marker) cs).0) (ahead-none T e)))
    (λ v e. if-step P (v == T.tokenize_state.marker) _ _
    (λ h. let less : codes_left (done (Consume ∷ []) T) + 1 ≡ codes_left T = left-done (Consume ∷ []) T (some-codes T v e) in
    Goes-ops W n (inside_ends T) (Next AttentionInside) (within AttentionInside) (Consume ∷ []) T alone (stack-consumed T opened) (omega (arith, less)) (run-goes T v e h))
    (λ h. leave (run-stops T v e h)))

-- of these states, and of any other as it is given
pub laws : (W : Words) → EqualsLayer states W → (t : StateName → StateWords) → AreLawful W t → AreLawful W (states t)
laws W within t other H.AttentionStart = start-law W within
laws W within t other H.AttentionInside = inside-law W within
laws W within t other s = other s
