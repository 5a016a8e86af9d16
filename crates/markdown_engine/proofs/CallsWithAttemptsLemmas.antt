-- what a call, or an attempt that goes on, adds to what is reached
use Rattle.std.proofs.Common.{◌≡◌, List, [], ◌∷◌, ◌++◌, ◌⊎◌, inl, inr, Bool, true, false, refl, sym, subst}
use Rattle.markdown_event.specs.declared.state.StateName.{StateName}
use Rattle.markdown_event.specs.declared.state.State.{State}
use Rattle.markdown_event.specs.declared.state.State.TheVariants.{Next, Retry, Ok, Nok}
use Rattle.markdown_engine.specs.declared.tokenizer.Tokenizer.{Tokenizer}
use Rattle.markdown_engine.specs.declared.tokenizer.Attempt.{Attempt}
use Rattle.markdown_engine.specs.StateRuns.{Stepped, settled, going_state, going_in}
use Rattle.markdown_engine.specs.CallsWithAttempts.{CallsReach}

-- one call more
pub Reaches-call : (ready : StateName → Tokenizer → Type 0) (step : StateName → Tokenizer → Stepped) (s : StateName) (T : Tokenizer) (ok : Bool) (U : Tokenizer) →
    ready s T → (fs : List Attempt) →
    CallsReach ready step ((step s T).left.attempts ++ fs) (step s T).state (settled (step s T).left) ok U →
    CallsReach ready step fs (Next s) T ok U
Reaches-call ready step s T ok U r [] k = (s ∷ k.0, (refl, r, k.1))
Reaches-call ready step s T ok U r (f ∷ fs) k = (s ∷ k.0, (refl, r, k.1))

Reaches-retry : (ready : StateName → Tokenizer → Type 0) (step : StateName → Tokenizer → Stepped) (fs : List Attempt) (s : StateName) (T : Tokenizer) (ok : Bool) (U : Tokenizer) →
    CallsReach ready step fs (Next s) T ok U → CallsReach ready step fs (Retry s) T ok U
Reaches-retry ready step [] s T ok U (([], k)) = absurd k
Reaches-retry ready step (f ∷ fs) s T ok U (([], k)) = absurd k
Reaches-retry ready step [] s T ok U ((c ∷ cs, k)) = (c ∷ cs, k)
Reaches-retry ready step (f ∷ fs) s T ok U ((c ∷ cs, k)) = (c ∷ cs, k)

pub Reaches-state : (ready : StateName → Tokenizer → Type 0) (step : StateName → Tokenizer → Stepped) (fs : List Attempt) (st : State) (s : StateName) (T : Tokenizer) (ok : Bool) (U : Tokenizer) →
    ((st ≡ Next s) ⊎ (st ≡ Retry s)) → CallsReach ready step fs (Next s) T ok U → CallsReach ready step fs st T ok U
Reaches-state ready step fs st s T ok U (inl e) k = subst (λ (x : State). CallsReach ready step fs x T ok U) (sym e) k
Reaches-state ready step fs st s T ok U (inr e) k =
    subst (λ (x : State). CallsReach ready step fs x T ok U) (sym e) (Reaches-retry ready step fs s T ok U k)

-- the answer with which a run ends
abbrev pub answer : Bool → State
answer true = Ok
answer false = Nok

-- the innermost attempt goes on
pub Reaches-out : (ready : StateName → Tokenizer → Type 0) (step : StateName → Tokenizer → Stepped) (f : Attempt) (fs : List Attempt) (b : Bool) (T : Tokenizer) (ok : Bool) (U : Tokenizer) →
    CallsReach ready step fs (going_state f b) (going_in f b T) ok U → CallsReach ready step (f ∷ fs) (answer b) T ok U
Reaches-out ready step f fs true T ok U (([], k)) = ([], k)
Reaches-out ready step f fs true T ok U ((c ∷ cs, k)) = (c ∷ cs, k)
Reaches-out ready step f fs false T ok U (([], k)) = ([], k)
Reaches-out ready step f fs false T ok U ((c ∷ cs, k)) = (c ∷ cs, k)
