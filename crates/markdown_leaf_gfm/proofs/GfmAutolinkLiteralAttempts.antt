-- A literal: it is entered, its codes are attempted, and it is exited after them.
use Rattle.std.proofs.Common.{◌≡◌, ℕ, ◌<◌, ◌≤◌, Bool, true, false, Option, Some, None, List, [], ◌∷◌, ◌++◌, length, length-drop, refl, sym, ap, subst, ◌∙◌, arith}
use Rattle.markdown_content.specs.Codes.{Code}
use Rattle.markdown_engine.specs.FailedRun.{Grown}
use Rattle.markdown_content.specs.ListFunctions.{rest_of}
use Rattle.markdown_engine.specs.Operations.{Op, Enter, Exit, Consume, IsOpen, ahead, applied, done, frame_of, moves, scratched}
use Rattle.markdown_engine.specs.StateRuns.{restored, going_state, going_in, Goes}
use Rattle.markdown_engine.specs.TreeOps.{consumes}
use Rattle.markdown_engine.specs.Weights.{codes_left, weight_at}
use Rattle.markdown_event.specs.declared.event.Name.{Name}
use Rattle.markdown_event.specs.declared.state.State.{State}
use Rattle.markdown_event.specs.declared.state.State.TheVariants.{Next, Nok}
use Rattle.markdown_engine.specs.declared.tokenizer.TokenizeState.{TokenizeState}
use Rattle.markdown_engine.specs.declared.tokenizer.Tokenizer.{Tokenizer}
use Rattle.markdown_engine.proofs.ReadingSequences.{scratched-same}
use Rattle.markdown_engine.proofs.LawSteps.{Grown-refl, restored-grown}
use Rattle.markdown_engine.proofs.OperationFields.{left-ahead, left-applied, stack-applied}
use Rattle.markdown_engine.proofs.OperationLemmas.{Grown-done, ahead-done, scratch-done}
use Rattle.markdown_engine.proofs.TreeEvents.{done-append}
use Rattle.markdown_model.specs.Grammar.{Reading}
use Rattle.markdown_plan.specs.Plan.{Plan, preceded, DoesAs}
use Rattle.markdown_leaf_gfm.specs.GfmAutolinkLiteral.{rested, entered_literal, pass_ops}
use Rattle.markdown_leaf_gfm.proofs.GfmAutolinkLiteralCovers.{leaf_ops, ops-leaf}
use Rattle.markdown_engine.specs.StateWords.{Words, StateWords, words_in, weight_in}
use Rattle.markdown_plan.proofs.LawStepsOfLayer.{follows}
use Rattle.markdown_event.specs.declared.state.StateName.{StateName}

stack-consumes : (cs : List Code) (T : Tokenizer) → (done (consumes cs) T).stack ≡ T.stack
stack-consumes [] T = refl
stack-consumes (c ∷ cs) T = stack-consumes cs (applied Consume T) ∙ stack-applied Consume T

pub left-passed : (os : List Op) (T : Tokenizer) → codes_left (done os T) ≤ codes_left T
left-passed os T =
    omega (arith, left-ahead T, left-ahead (done os T), ap length (ahead-done os T), length-drop (moves os) (ahead T))

-- what the operations of a reading are
pub record IsPassed (o : Option (List Code × List Code)) (os : List Op) : Type 0 where
  pub text : List Code
  pub rest : List Code
  pub read : ◌≡◌ {A = Option (List Code × List Code)} o (Some (text, rest))
  pub is : os ≡ consumes text

pub passed-is : (o : Option (List Code × List Code)) (os : List Op) → pass_ops o ≡ Some os → IsPassed o os
passed-is None os e = cc
passed-is (Some r) os e = record { text = r.0; rest = r.1; read = refl; is = cc }

pub passed-none : (o : Option (List Code × List Code)) → pass_ops o ≡ None → o ≡ None
passed-none None e = refl
passed-none (Some r) e = cc

-- it begins with a code
abbrev pub BeginsByConsuming : Option (List Op) → Type 0
BeginsByConsuming o = (os : List Op) → o ≡ Some os → (more : List Op) × (os ≡ Consume ∷ more)

pub begins-first : (o : Option (List Op)) → BeginsByConsuming (preceded (Consume ∷ []) o)
begins-first None os e = cc
begins-first (Some xs) os e = (xs, cc)

pub enter-same : (name : Name) (T : Tokenizer) → rested T.tokenize_state ≡ T.tokenize_state →
    scratched (rested T.tokenize_state) (entered_literal name T) ≡ entered_literal name T
enter-same name T e =
    ap (λ (x : TokenizeState). scratched x (entered_literal name T)) (e ∙ sym (scratch-done (Enter name ∷ []) T)) ∙ scratched-same (entered_literal name T)

-- No literal stands here: it is entered in vain.

pub no-literal : (W : Words) (n : ℕ) (name : Name) (last : StateName) (p : Plan) (T : Tokenizer) → 0 < n → p (ahead T) ≡ None →
    (ok : Bool) (V : Tokenizer) → (ok ≡ false) × (V ≡ entered_literal name T) →
    Goes W.ready W.ends (weight_in W) n (DoesAs 0 p T.tokenize_state T) [] (going_state (frame_of false (Next last) Nok (entered_literal name T)) ok) (going_in (frame_of false (Next last) Nok (entered_literal name T)) ok V)
unfolding frame_of
no-literal W n name last p T some e true V x = cc
no-literal W n name last p T some e false V x =
    let A : Tokenizer = entered_literal name T in
    let E : Bool → Tokenizer → Type 0 = DoesAs 0 p T.tokenize_state T in
    let back : restored (frame_of false (Next last) Nok A) V ≡ A = ap (restored (frame_of false (Next last) Nok A)) x.1 ∙ restored-grown false (Next last) Nok A A (Grown-refl 0 A) ∙ scratched-same A in (
      record { goes_on = tt; falls = some },
      λ ok X z. subst (λ b. E b X) (sym z.0)
          (record {
            none = e;
            grown = subst (λ (y : Tokenizer). Grown 0 T y) (sym (z.1 ∙ back)) (Grown-done 0 (Enter name ∷ []) T refl);
            scratch = ap (λ (y : Tokenizer). y.tokenize_state) (z.1 ∙ back) ∙ scratch-done (Enter name ∷ []) T;
          }),
    )

module _ (W : Words) (name : Name) (st : State) (last : StateName) (reading : Reading (List Code)) (p : Plan) (T : Tokenizer) (resting : rested T.tokenize_state ≡ T.tokenize_state) (same : p (ahead T) ≡ leaf_ops name (reading (ahead T))) where
  abbrev inside : Plan
  inside cs = pass_ops (reading cs)

  -- the codes are passed, and the literal is exited
  passed-literal : (U V : Tokenizer) → BeginsByConsuming (inside (ahead T)) →
      DoesAs 0 inside (rested T.tokenize_state) (entered_literal name T) true U → V ≡ done (Exit name ∷ []) U →
      DoesAs 0 p T.tokenize_state T true V
  passed-literal U V some k e =
      let A : Tokenizer = entered_literal name T in
      let holds : inside (ahead T) ≡ Some k.ops = ap inside (sym (ahead-done (Enter name ∷ []) T)) ∙ k.holds in
      let r : IsPassed (reading (ahead T)) k.ops = passed-is (reading (ahead T)) k.ops holds in
      let more = some k.ops holds in
      let left : U ≡ done (consumes r.text) A = k.left ∙ ap (done k.ops) (enter-same name T resting) ∙ ap (λ os. done os A) r.is in
      record {
        ops = Enter name ∷ (consumes r.text ++ Exit name ∷ []);
        holds = same ∙ ap (leaf_ops name) r.read ∙ ap (λ os. Some os) (ops-leaf name r.text more.0 (sym r.is ∙ more.1));
        left = e ∙ ap (done (Exit name ∷ [])) left ∙ sym (done-append (consumes r.text) (Exit name ∷ []) A) ∙ ap (done (Enter name ∷ (consumes r.text ++ Exit name ∷ []))) (sym (scratched-same T));
      }

  opens-still : (U : Tokenizer) → DoesAs 0 inside (rested T.tokenize_state) (entered_literal name T) true U →
      IsOpen name U
  opens-still U k =
      let A : Tokenizer = entered_literal name T in
      let holds : inside (ahead T) ≡ Some k.ops = ap inside (sym (ahead-done (Enter name ∷ []) T)) ∙ k.holds in
      let r : IsPassed (reading (ahead T)) k.ops = passed-is (reading (ahead T)) k.ops holds in
      let left : U ≡ done (consumes r.text) A = k.left ∙ ap (done k.ops) (enter-same name T resting) ∙ ap (λ os. done os A) r.is in
      let stack : U.stack ≡ name ∷ T.stack = ap (λ (x : Tokenizer). x.stack) left ∙ stack-consumes r.text A ∙ stack-applied (Enter name) T in
      stack ∙ ap (λ ns. name ∷ rest_of ns) (sym stack)

  left-literal : (U : Tokenizer) → DoesAs 0 inside (rested T.tokenize_state) (entered_literal name T) true U →
      codes_left U ≤ codes_left T
  left-literal U k =
      let A : Tokenizer = entered_literal name T in
      omega (arith, ap codes_left (k.left ∙ ap (done k.ops) (enter-same name T resting)), left-passed k.ops A, left-applied (Enter name) T refl)

  -- they are not
  back-literal : (U : Tokenizer) → DoesAs 0 inside (rested T.tokenize_state) (entered_literal name T) false U →
      restored (frame_of false (Next last) Nok (entered_literal name T)) U ≡ entered_literal name T
  back-literal U k =
      let A : Tokenizer = entered_literal name T in
      restored-grown false (Next last) Nok A U k.grown ∙ ap (λ (x : TokenizeState). scratched x A) k.scratch ∙ enter-same name T resting

  failed-literal : (U V : Tokenizer) → DoesAs 0 inside (rested T.tokenize_state) (entered_literal name T) false U →
      V ≡ entered_literal name T → DoesAs 0 p T.tokenize_state T false V
  failed-literal U V k e =
      let none : inside (ahead T) ≡ None = ap inside (sym (ahead-done (Enter name ∷ []) T)) ∙ k.none in
      record {
        none = same ∙ ap (leaf_ops name) (passed-none (reading (ahead T)) none);
        grown = subst (λ (x : Tokenizer). Grown 0 T x) (sym e) (Grown-done 0 (Enter name ∷ []) T refl);
        scratch = ap (λ (x : Tokenizer). x.tokenize_state) e ∙ scratch-done (Enter name ∷ []) T;
      }

  -- the attempt has ended
  pub literal-ended : (n : ℕ) {w : StateWords} → words_in W last ≡ w → 0 < n → ((U : Tokenizer) → codes_left U ≤ codes_left T → weight_at (w.rank U) U < n) →
      BeginsByConsuming (inside (ahead T)) → ((U : Tokenizer) → IsOpen name U → w.ready U) →
      ((U : Tokenizer) (ok : Bool) (V : Tokenizer) → w.ends U ok V → (ok ≡ true) × (V ≡ done (Exit name ∷ []) U)) →
      (b : Bool) (U : Tokenizer) → DoesAs 0 inside (rested T.tokenize_state) (entered_literal name T) b U →
      Goes W.ready W.ends (weight_in W) n (DoesAs 0 p T.tokenize_state T) [] (going_state (frame_of false (Next last) Nok (entered_literal name T)) b) (going_in (frame_of false (Next last) Nok (entered_literal name T)) b U)
  unfolding frame_of
  literal-ended n {w} say_last some falls first last_ready last_end true U y =
      let E : Bool → Tokenizer → Type 0 = DoesAs 0 p T.tokenize_state T in
      let f = follows W n E (Next last) {w = w} say_last U (last_ready U (opens-still U y)) (falls U (left-literal U y)) (λ ok V z. (let e = last_end U ok V z in subst (λ b. E b V) (sym e.0) (passed-literal U V first y e.1))) in
      (record { goes_on = f.goes_on; falls = f.falls }, f.closed)
  literal-ended n {w} say_last some falls first last_ready last_end false U y =
      let E : Bool → Tokenizer → Type 0 = DoesAs 0 p T.tokenize_state T in
      (record { goes_on = tt; falls = some }, λ ok V z. subst (λ b. E b V) (sym z.0) (failed-literal U V y (z.1 ∙ back-literal U y)))
