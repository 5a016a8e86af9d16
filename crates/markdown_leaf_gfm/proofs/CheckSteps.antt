-- A step that opens two attempts, one in the other.
use Rattle.std.proofs.Common.{◌≡◌, ℕ, ◌<◌, List, [], ◌∷◌, Bool, true, false, refl, ap, subst, arith}
use Rattle.markdown_engine.specs.Operations.{attempted, frame_of}
use Rattle.markdown_engine.specs.StateRuns.{stepped, settled, going_state, going_in, Goes}
use Rattle.markdown_engine.specs.StateWords.{StateWords, Words, words_at, weight_in, GoesIn}
use Rattle.markdown_engine.specs.Weights.{weight_at}
use Rattle.markdown_event.specs.declared.state.State.{State}
use Rattle.markdown_engine.specs.declared.tokenizer.Attempt.{Attempt}
use Rattle.markdown_engine.specs.declared.tokenizer.Tokenizer.{Tokenizer}
use Rattle.markdown_plan.proofs.LawStepsOfLayer.{said-ready, said-ends, said-weight}

settled-both : (inner outer : Bool) (then1 else1 then2 else2 : State) (T : Tokenizer) → T.attempts ≡ [] →
    settled (attempted inner then1 else1 (attempted outer then2 else2 T)) ≡ T
unfolding settled attempted
settled-both inner outer then1 else1 then2 else2 T e =
    let P : List Attempt → Type 0 = λ x. record T { attempts = x } ≡ T in subst P e refl

attempts-both : (inner outer : Bool) (then1 else1 then2 else2 : State) (T : Tokenizer) → T.attempts ≡ [] →
    (attempted inner then1 else1 (attempted outer then2 else2 T)).attempts ≡ frame_of inner then1 else1 T ∷ frame_of outer then2 else2 T ∷ []
unfolding attempted frame_of
attempts-both inner outer then1 else1 then2 else2 T e =
    ap (λ x. frame_of inner then1 else1 T ∷ frame_of outer then2 else2 T ∷ x) e

module _ (W : Words) where
  -- what the run after the inner one has to meet: it goes on in the outer one
  pub Goes-both : (n : ℕ) (E : Bool → Tokenizer → Type 0) (st : State) {w : StateWords} → words_at W st ≡ w →
      (inner outer : Bool) (then1 else1 then2 else2 : State) (T : Tokenizer) → T.attempts ≡ [] → w.ready T → weight_at (w.rank T) T < n →
      ((b : Bool) (U : Tokenizer) → U.attempts ≡ [] → w.ends T b U → Goes W.ready W.ends (weight_in W) n E (frame_of outer then2 else2 T ∷ []) (going_state (frame_of inner then1 else1 T) b) (going_in (frame_of inner then1 else1 T) b U)) →
      GoesIn W n E (stepped st (attempted inner then1 else1 (attempted outer then2 else2 T)))
  Goes-both n E st {w} say inner outer then1 else1 then2 else2 T alone on falls closed =
      rw (settled-both inner outer then1 else1 then2 else2 T alone, attempts-both inner outer then1 else1 then2 else2 T alone) (
        record { goes_on = said-ready W st w say T on; falls = omega (arith, falls, said-weight W st w say T) },
        λ b U now e. closed b U now (said-ends W st w say T b U e),
      )

  -- an attempt in a check
  pub Goes-looked : (n : ℕ) (E : Bool → Tokenizer → Type 0) (st : State) {w : StateWords} → words_at W st ≡ w →
      (then1 else1 then2 else2 : State) (T : Tokenizer) → T.attempts ≡ [] → w.ready T → weight_at (w.rank T) T < n →
      ((U : Tokenizer) → U.attempts ≡ [] → w.ends T true U → Goes W.ready W.ends (weight_in W) n E (frame_of true then2 else2 T ∷ []) then1 U) →
      ((U : Tokenizer) → U.attempts ≡ [] → w.ends T false U → Goes W.ready W.ends (weight_in W) n E (frame_of true then2 else2 T ∷ []) else1 (going_in (frame_of false then1 else1 T) false U)) →
      GoesIn W n E (stepped st (attempted false then1 else1 (attempted true then2 else2 T)))
  unfolding frame_of
  Goes-looked n E st {w} say then1 else1 then2 else2 T alone on falls if_ok if_nok =
      Goes-both n E st {w = w} say false true then1 else1 then2 else2 T alone on falls (λ b U now e.
      elim b as (λ (x : Bool). w.ends T x U → Goes W.ready W.ends (weight_in W) n E (frame_of true then2 else2 T ∷ []) (going_state (frame_of false then1 else1 T) x) (going_in (frame_of false then1 else1 T) x U)) [
        | true ↦ λ h. if_ok U now h
        | false ↦ λ h. if_nok U now h
      ] e)

  -- with this attempt open, the run goes on with this state
  pub goes-then : (n : ℕ) (E : Bool → Tokenizer → Type 0) (f : Attempt) (fs : List Attempt) (st : State) {w : StateWords} →
      words_at W st ≡ w → (U : Tokenizer) → w.ready U → weight_at (w.rank U) U < n →
      ((ok : Bool) (V : Tokenizer) → V.attempts ≡ [] → w.ends U ok V → Goes W.ready W.ends (weight_in W) n E fs (going_state f ok) (going_in f ok V)) →
      Goes W.ready W.ends (weight_in W) n E (f ∷ fs) st U
  goes-then n E f fs st {w} say U on falls closed =
      (record { goes_on = said-ready W st w say U on; falls = omega (arith, falls, said-weight W st w say U) }, λ ok V now x. closed ok V now (said-ends W st w say U ok V x))
