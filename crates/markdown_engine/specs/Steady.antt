-- States that go on by themselves.
use Rattle.std.specs.Prelude.{◌≡◌, ℕ, ◌<◌, ◌≤◌, ◌==◌, Bool, true, List, [], ◌∷◌, Option, Some, None, if◌then◌else◌}
use Rattle.markdown_engine.specs.Operations.{current_of, consumed}
use Rattle.markdown_engine.specs.CallsWithAttempts.{CallsReach}
use Rattle.markdown_engine.specs.StateRuns.{Stepped, stepped}
use Rattle.markdown_content.specs.Stretch.{is_free}
use Rattle.markdown_engine.specs.TurnCount.{later, ran}
use Rattle.markdown_engine.specs.declared.tokenizer.Attempt.{Attempt}
use Rattle.markdown_event.specs.declared.state.State.TheVariants.{Next}
use Rattle.markdown_event.specs.declared.state.StateName.{StateName}
use Rattle.markdown_engine.specs.declared.tokenizer.TokenizeState.{TokenizeState}
use Rattle.markdown_engine.specs.declared.tokenizer.Tokenizer.{Tokenizer}

-- at a code that is neither a line ending nor one of a state's stop bytes, a call of the state does no more than pass the code, and
-- the state itself is next
abbrev pub IsSteady : (StateName → Tokenizer → Type 0) → (StateName → Tokenizer → Stepped) → (StateName → TokenizeState → Option (List ℕ)) → Type 0
IsSteady ready step stops =
    (s : StateName) (T : Tokenizer) (set : List ℕ) → T.attempts ≡ [] → ready s T → stops s T.tokenize_state ≡ Some set → is_free set (current_of T) ≡ true → step s T ≡ stepped (Next s) (consumed T)

-- this byte alone, where it is one of some
abbrev pub alone_among : List ℕ → ℕ → Option (List ℕ)
alone_among [] m = None
alone_among (k ∷ ks) m = if m == k then Some (k ∷ []) else alone_among ks m

-- a state's run from one tokenizer may go on from another: what it reaches and how it ends there is so from the one,
-- after as many turns or more
pub record Onward (ready : StateName → Tokenizer → Type 0) (step : StateName → Tokenizer → Stepped) (ends : StateName → Tokenizer → Bool → Tokenizer → Type 0) (weight : StateName → Tokenizer → ℕ) (s : StateName) (T U : Tokenizer) : Type 0 where
  pub alone : U.attempts ≡ []
  pub goes_on : ready s U
  pub below : weight s U ≤ weight s T
  pub calls : (fs : List Attempt) (ok : Bool) (V : Tokenizer) → CallsReach ready step fs (Next s) U ok V → CallsReach ready step fs (Next s) T ok V
  pub ends_so : (ok : Bool) (V : Tokenizer) → ends s U ok V → ends s T ok V
  pub turns : (n : ℕ) → weight s T < n → (k : ℕ) × (ran step n (Next s) T ≡ later k (ran step n (Next s) U))
