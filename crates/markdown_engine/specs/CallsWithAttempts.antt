-- what a list of calls reaches, attempts applied between them
use Rattle.std.specs.Prelude.{◌≡◌, List, [], ◌∷◌, ◌++◌, Bool, true, false}
use Rattle.markdown_event.specs.declared.state.StateName.{StateName}
use Rattle.markdown_event.specs.declared.state.State.{State}
use Rattle.markdown_event.specs.declared.state.State.TheVariants.{Next, Retry, Ok, Nok}
use Rattle.markdown_engine.specs.declared.tokenizer.Tokenizer.{Tokenizer}
use Rattle.markdown_engine.specs.declared.tokenizer.Attempt.{Attempt}
use Rattle.markdown_engine.specs.StateRuns.{Stepped, settled, restored, going_in}

abbrev pub Then : Type 1
Then = State → Tokenizer → List Attempt → Type 0

-- after an Ok or a Nok the innermost attempt goes on, and so on, until a state is next or no attempt waits
abbrev pub Applied : Then → List Attempt → State → Tokenizer → Type 0
Applied K [] st T = K st T []
Applied K (f ∷ fs) (Next s) T = K (Next s) T (f ∷ fs)
Applied K (f ∷ fs) (Retry s) T = K (Retry s) T (f ∷ fs)
Applied K (f ∷ fs) Ok T = Applied K fs f.ok (going_in f true T)
Applied K (f ∷ fs) Nok T = Applied K fs f.nok (restored f T)

-- the run has ended
abbrev pub Ended : Bool → Tokenizer → Then
Ended ok U Ok T [] = (ok ≡ true) × (U ≡ T)
Ended ok U Nok T [] = (ok ≡ false) × (U ≡ T)
Ended ok U (Next s) T fs = ⊥
Ended ok U (Retry s) T fs = ⊥
Ended ok U Ok T (f ∷ fs) = ⊥
Ended ok U Nok T (f ∷ fs) = ⊥

-- the next call is of this state, whose condition holds, and then K
abbrev pub Called : (StateName → Tokenizer → Type 0) → (StateName → Tokenizer → Stepped) → StateName → Then → Then
Called ready step s K (Next n) T fs = (n ≡ s) × ready s T × K (step s T).state (settled (step s T).left) ((step s T).left.attempts ++ fs)
Called ready step s K (Retry n) T fs = (n ≡ s) × ready s T × K (step s T).state (settled (step s T).left) ((step s T).left.attempts ++ fs)
Called ready step s K Ok T fs = ⊥
Called ready step s K Nok T fs = ⊥

-- these calls lead from this answer, with these attempts open, to this end
abbrev pub CallsLead : (StateName → Tokenizer → Type 0) → (StateName → Tokenizer → Stepped) → Bool → Tokenizer → List StateName → Then
CallsLead ready step ok U [] st T fs = Applied (Ended ok U) fs st T
CallsLead ready step ok U (s ∷ ss) st T fs = Applied (Called ready step s (CallsLead ready step ok U ss)) fs st T

-- some list of calls leads there, with no attempt open at first
abbrev pub CallsReach : (StateName → Tokenizer → Type 0) → (StateName → Tokenizer → Stepped) → List Attempt → State → Tokenizer → Bool → Tokenizer → Type 0
CallsReach ready step fs st T ok U = (calls : List StateName) × CallsLead ready step ok U calls st T fs
