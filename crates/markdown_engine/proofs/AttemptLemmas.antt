-- what restoring and settling leave of the attempts
use Rattle.std.proofs.Common.{◌≡◌, ℕ, ◌⊎◌, inl, inr, List, [], Bool, true, false, if◌then◌else◌, refl, sym, ap, subst}
use Rattle.markdown_engine.specs.declared.tokenizer.Tokenizer.{Tokenizer}
use Rattle.markdown_engine.specs.declared.tokenizer.Attempt.{Attempt}
use Rattle.markdown_engine.specs.StateRuns.{stepped, settled, restored, going_in, ends_state, ready_state, weight_state, MayGo, Goes, GoesOn}
use Rattle.markdown_event.specs.declared.state.StateName.{StateName}
use Rattle.markdown_event.specs.declared.state.State.{State}
use Rattle.markdown_event.specs.declared.state.State.TheVariants.{Next, Retry}

pub settled-alone : (T : Tokenizer) → (settled T).attempts ≡ []
unfolding settled
settled-alone T = refl

when : (b : Bool) (X Y : Tokenizer) → X.attempts ≡ [] → Y.attempts ≡ [] → (if b then X else Y).attempts ≡ []
when true X Y p q = p
when false X Y p q = q

pub going_in-alone : (f : Attempt) (ok : Bool) (T : Tokenizer) → T.attempts ≡ [] → (going_in f ok T).attempts ≡ []
unfolding restored
going_in-alone f true T e = when f.restores (restored f T) T e e
going_in-alone f false T e = e

-- a state that is next, whether after a code or not
pub weight-next : (weight : StateName → Tokenizer → ℕ) (st : State) (s : StateName) (T : Tokenizer) →
    ((st ≡ Next s) ⊎ (st ≡ Retry s)) → weight_state weight st T ≡ weight s T
weight-next weight st s T (inl e) = ap (λ (x : State). weight_state weight x T) e
weight-next weight st s T (inr e) = ap (λ (x : State). weight_state weight x T) e

pub ready-next : (ready : StateName → Tokenizer → Type 0) (st : State) (s : StateName) (T : Tokenizer) →
    ((st ≡ Next s) ⊎ (st ≡ Retry s)) → ready_state ready st T → ready s T
ready-next ready st s T (inl e) k = subst (λ (x : State). ready_state ready x T) e k
ready-next ready st s T (inr e) k = subst (λ (x : State). ready_state ready x T) e k

pub ends-next : (ends : StateName → Tokenizer → Bool → Tokenizer → Type 0) (st : State) (s : StateName) (T : Tokenizer) (ok : Bool) (U : Tokenizer) →
    ((st ≡ Next s) ⊎ (st ≡ Retry s)) → ends s T ok U → ends_state ends st T ok U
ends-next ends st s T ok U (inl e) k = subst (λ (x : State). ends_state ends x T ok U) (sym e) k
ends-next ends st s T ok U (inr e) k = subst (λ (x : State). ends_state ends x T ok U) (sym e) k

-- Where no attempt was opened.

pub settled-same : (T : Tokenizer) → T.attempts ≡ [] → settled T ≡ T
unfolding settled
settled-same T e = ap (λ (fs : List Attempt). record T { attempts = fs }) (sym e)

pub goes-alone : (ready : StateName → Tokenizer → Type 0) (ends : StateName → Tokenizer → Bool → Tokenizer → Type 0) (weight : StateName → Tokenizer → ℕ) (n : ℕ) (End : Bool → Tokenizer → Type 0) (st : State) (T : Tokenizer) →
    T.attempts ≡ [] → GoesOn ready ends weight n End (stepped st T) →
    MayGo ready weight n st T × ((ok : Bool) (U : Tokenizer) → ends_state ends st T ok U → End ok U)
goes-alone ready ends weight n End st T e h =
    subst (λ (V : Tokenizer). MayGo ready weight n st V × ((ok : Bool) (U : Tokenizer) → ends_state ends st V ok U → End ok U)) (settled-same T e)
    (subst (λ (fs : List Attempt). Goes ready ends weight n End fs st (settled T)) e h)
