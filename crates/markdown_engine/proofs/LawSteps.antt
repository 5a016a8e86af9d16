-- how a module proves a layer's laws at its states
use Rattle.std.proofs.Common.{◌≡◌, ℕ, ◌-◌, ◌<◌, List, [], ◌∷◌, ◌++◌, length, take, drop, Bool, true, false, if◌then◌else◌, Option, Some, None, refl, sym, ap, subst, ◌∙◌, arith}
use Rattle.std.proofs.lemmas.Grind.{common_steps}
use Rattle.markdown_event.specs.declared.state.StateName.{StateName}
use Rattle.markdown_event.specs.declared.state.State.{State}
use Rattle.markdown_engine.specs.declared.tokenizer.Tokenizer.{Tokenizer}
use Rattle.markdown_engine.specs.declared.tokenizer.Attempt.{Attempt}
use Rattle.markdown_engine.specs.declared.tokenizer.TokenizeState.{TokenizeState}
use Rattle.markdown_engine.specs.StateRuns.{Stepped, settled, restored, going_state, going_in, ends_state, ready_state, weight_state, Goes}
use Rattle.markdown_engine.specs.Operations.{attempted, frame_of, scratched}
use Rattle.markdown_engine.specs.FailedRun.{unwound, Grown, Fails}

settled-same : (T : Tokenizer) → T.attempts ≡ [] → settled T ≡ T
unfolding settled
settled-same T e = let P : List Attempt → Type 0 = λ x. record T { attempts = x } ≡ T in subst P e refl

-- a step that opens no attempt
pub Goes-plain : (ready : StateName → Tokenizer → Type 0) (ends : StateName → Tokenizer → Bool → Tokenizer → Type 0) (weight : StateName → Tokenizer → ℕ) (n : ℕ) (End : Bool → Tokenizer → Type 0) (st : State) (T : Tokenizer) →
    T.attempts ≡ [] → ready_state ready st T → weight_state weight st T < n →
    ((ok : Bool) (U : Tokenizer) → ends_state ends st T ok U → End ok U) →
    Goes ready ends weight n End T.attempts st (settled T)
Goes-plain ready ends weight n End st T alone on falls closed =
    let now : Goes ready ends weight n End [] st T = (record { goes_on = on; falls = falls }, closed) in
    rw (settled-same T alone) (subst (λ (fs : List Attempt). Goes ready ends weight n End fs st T) (sym alone) now)

settled-attempted : (r : Bool) (ok nok : State) (T : Tokenizer) → T.attempts ≡ [] → settled (attempted r ok nok T) ≡ T
unfolding settled attempted
settled-attempted r ok nok T e = let P : List Attempt → Type 0 = λ x. record T { attempts = x } ≡ T in subst P e refl

attempts-attempted : (r : Bool) (ok nok : State) (T : Tokenizer) → T.attempts ≡ [] →
    (attempted r ok nok T).attempts ≡ frame_of r ok nok T ∷ []
unfolding attempted
attempts-attempted r ok nok T e = ap (λ x. frame_of r ok nok T ∷ x) e

-- what the run after an attempt has to meet
pub record MayFollow (ready : StateName → Tokenizer → Type 0) (ends : StateName → Tokenizer → Bool → Tokenizer → Type 0) (weight : StateName → Tokenizer → ℕ) (n : ℕ) (End : Bool → Tokenizer → Type 0) (st : State) (U : Tokenizer) : Type 0 where
  pub goes_on : ready_state ready st U
  pub falls : weight_state weight st U < n
  pub closed : (ok : Bool) (V : Tokenizer) → ends_state ends st U ok V → End ok V

-- a step that opens one attempt, which restores after an Ok or not
Goes-tried : (ready : StateName → Tokenizer → Type 0) (ends : StateName → Tokenizer → Bool → Tokenizer → Type 0) (weight : StateName → Tokenizer → ℕ) (n : ℕ) (End : Bool → Tokenizer → Type 0) (r : Bool) (st ok nok : State) (T : Tokenizer) →
    T.attempts ≡ [] → ready_state ready st T → weight_state weight st T < n →
    ((b : Bool) (U : Tokenizer) → U.attempts ≡ [] → ends_state ends st T b U → MayFollow ready ends weight n End (going_state (frame_of r ok nok T) b) (going_in (frame_of r ok nok T) b U)) →
    Goes ready ends weight n End (attempted r ok nok T).attempts st (settled (attempted r ok nok T))
Goes-tried ready ends weight n End r st ok nok T alone on falls follows =
    rw (settled-attempted r ok nok T alone, attempts-attempted r ok nok T alone) (
      record { goes_on = on; falls = falls },
      λ b U now e. let f = follows b U now e in (record { goes_on = f.goes_on; falls = f.falls }, f.closed),
    )

-- a step that opens one attempt
pub Goes-attempt : (ready : StateName → Tokenizer → Type 0) (ends : StateName → Tokenizer → Bool → Tokenizer → Type 0) (weight : StateName → Tokenizer → ℕ) (n : ℕ) (End : Bool → Tokenizer → Type 0) (st ok nok : State) (T : Tokenizer) →
    T.attempts ≡ [] → ready_state ready st T → weight_state weight st T < n →
    ((U : Tokenizer) → U.attempts ≡ [] → ends_state ends st T true U → MayFollow ready ends weight n End ok U) →
    ((U : Tokenizer) → U.attempts ≡ [] → ends_state ends st T false U → MayFollow ready ends weight n End nok (restored (frame_of false ok nok T) U)) →
    Goes ready ends weight n End (attempted false ok nok T).attempts st (settled (attempted false ok nok T))
unfolding frame_of
Goes-attempt ready ends weight n End st ok nok T alone on falls if_ok if_nok =
    Goes-tried ready ends weight n End false st ok nok T alone on falls (λ b U now e.
    elim b as (λ (x : Bool). ends_state ends st T x U → MayFollow ready ends weight n End (going_state (frame_of false ok nok T) x) (going_in (frame_of false ok nok T) x U)) [
      | true ↦ λ h. if_ok U now h
      | false ↦ λ h. if_nok U now h
    ] e)

-- a step that opens one check: an Ok restores too
pub Goes-check : (ready : StateName → Tokenizer → Type 0) (ends : StateName → Tokenizer → Bool → Tokenizer → Type 0) (weight : StateName → Tokenizer → ℕ) (n : ℕ) (End : Bool → Tokenizer → Type 0) (st ok nok : State) (T : Tokenizer) →
    T.attempts ≡ [] → ready_state ready st T → weight_state weight st T < n →
    ((U : Tokenizer) → U.attempts ≡ [] → ends_state ends st T true U → MayFollow ready ends weight n End ok (restored (frame_of true ok nok T) U)) →
    ((U : Tokenizer) → U.attempts ≡ [] → ends_state ends st T false U → MayFollow ready ends weight n End nok (restored (frame_of true ok nok T) U)) →
    Goes ready ends weight n End (attempted true ok nok T).attempts st (settled (attempted true ok nok T))
unfolding frame_of
Goes-check ready ends weight n End st ok nok T alone on falls if_ok if_nok =
    Goes-tried ready ends weight n End true st ok nok T alone on falls (λ b U now e.
    elim b as (λ (x : Bool). ends_state ends st T x U → MayFollow ready ends weight n End (going_state (frame_of true ok nok T) x) (going_in (frame_of true ok nok T) x U)) [
      | true ↦ λ h. if_ok U now h
      | false ↦ λ h. if_nok U now h
    ] e)

drop-append-length : {X : Type 0} → (a b : List X) (n : ℕ) → n ≡ length a → drop n (a ++ b) ≡ b
drop-append-length a b n e = grind (arith, common_steps)

-- a failed attempt puts back what a run that has only grown it has done
pub restored-grown : (r : Bool) (ok nok : State) (T U : Tokenizer) → Grown 0 T U →
    restored (frame_of r ok nok T) U ≡ scratched U.tokenize_state T
unfolding restored frame_of unwound
restored-grown r ok nok T U g =
    let stack : U.stack ≡ g.opened ++ T.stack = g.stack in
    let size : length U.stack - length T.stack ≡ length g.opened = grind (arith, common_steps) in
    let as_before : drop (length U.stack - length T.stack) U.stack ≡ T.stack = ap (λ x. drop (length U.stack - length T.stack) x) stack ∙ drop-append-length g.opened T.stack (length U.stack - length T.stack) size in
    let kept : take (length T.events) U.events ≡ T.events = grind (arith, common_steps, g.events) in
    let edits : take (length T.map) U.map ≡ T.map = grind (arith, common_steps, g.map) in
    rw (kept, edits, as_before) g.same

-- a failed attempt puts back all but the scratch fields
pub restored-fails : (r : Bool) (ok nok : State) (s : TokenizeState) (T U : Tokenizer) → Fails s T U →
    restored (frame_of r ok nok T) U ≡ scratched s T
restored-fails r ok nok s T U f =
    restored-grown r ok nok T U f.grown ∙ ap (λ (x : TokenizeState). scratched x T) f.scratch

pub Grown-refl : (d : ℕ) (T : Tokenizer) → Grown d T T
unfolding unwound scratched
Grown-refl d T =
    record { added = []; events = search common_steps; edits = []; map = search common_steps; opened = take d T.stack; stack = search common_steps; same = refl }

-- a step by a test
pub if-step : (P : Stepped → Type 0) (b : Bool) (x y : Stepped) → (b ≡ true → P x) → (b ≡ false → P y) →
    P (if b then x else y)
if-step P true x y p q = p refl
if-step P false x y p q = q refl

-- a step by the current code
pub code-step : (P : Stepped → Type 0) (o : Option ℕ) (f : Option ℕ → Stepped) → (o ≡ None → P (f None)) →
    ((c : ℕ) → o ≡ Some c → P (f (Some c))) → P (f o)
code-step P None f p q = p refl
code-step P (Some c) f p q = q c refl
