-- whole runs of a layer's states, attempts applied
use Rattle.std.specs.Prelude.{◌≡◌, ℕ, ◌-◌, ◌<◌, List, [], ◌∷◌, length, take, drop, Bool, true, false, if◌then◌else◌}
use Rattle.markdown_event.specs.declared.state.StateName.{StateName}
use Rattle.markdown_event.specs.declared.state.State.{State}
use Rattle.markdown_event.specs.declared.state.State.TheVariants.{Next, Retry, Ok, Nok}
use Rattle.markdown_engine.specs.declared.tokenizer.Tokenizer.{Tokenizer}
use Rattle.markdown_engine.specs.declared.tokenizer.Attempt.{Attempt}

-- what one call answers, and the tokenizer that it leaves, with the attempts that it opened
pub record Stepped : Type 0 where
  pub state : State
  pub left : Tokenizer

abbrev pub stepped : State → Tokenizer → Stepped
stepped s T = record { state = s; left = T }

-- with no attempt
unfoldable pub settled : Tokenizer → Tokenizer
settled T = record T { attempts = [] }

-- as a failed attempt restores it
unfoldable pub restored : Attempt → Tokenizer → Tokenizer
restored f T = record T { events = take f.events_len T.events; map = take f.map_len T.map; stack = drop (length T.stack - f.stack_len) T.stack; cursor = f.cursor }

-- the state that an attempt goes on with after an Ok or a Nok, and in which tokenizer
abbrev pub going_state : Attempt → Bool → State
going_state f ok = if ok then f.ok else f.nok

abbrev pub going_in : Attempt → Bool → Tokenizer → Tokenizer
going_in f true T = if f.restores then restored f T else T
going_in f false T = restored f T

-- how a run from a state in a tokenizer may end: Ok or not, and in which tokenizer
abbrev pub ends_state : (StateName → Tokenizer → Bool → Tokenizer → Type 0) → State → Tokenizer → Bool → Tokenizer → Type 0
ends_state ends (Next s) T ok U = ends s T ok U
ends_state ends (Retry s) T ok U = ends s T ok U
ends_state ends Ok T ok U = (ok ≡ true) × (U ≡ T)
ends_state ends Nok T ok U = (ok ≡ false) × (U ≡ T)

abbrev pub ready_state : (StateName → Tokenizer → Type 0) → State → Tokenizer → Type 0
ready_state ready (Next s) T = ready s T
ready_state ready (Retry s) T = ready s T
ready_state ready Ok T = Unit {0}
ready_state ready Nok T = Unit {0}

abbrev pub weight_state : (StateName → Tokenizer → ℕ) → State → Tokenizer → ℕ
weight_state weight (Next s) T = weight s T
weight_state weight (Retry s) T = weight s T
weight_state weight Ok T = 0
weight_state weight Nok T = 0

-- a run may go on from this state in this tokenizer: its condition holds and its number is below n
pub record MayGo (ready : StateName → Tokenizer → Type 0) (weight : StateName → Tokenizer → ℕ) (n : ℕ) (st : State) (T : Tokenizer) : Type 0 where
  pub goes_on : ready_state ready st T
  pub falls : weight_state weight st T < n

-- a run goes on from this state in this tokenizer, where these attempts were opened, the innermost first: each state that
-- follows may go on, and what the last of them ends with is an end that is claimed
abbrev pub Goes : (StateName → Tokenizer → Type 0) → (StateName → Tokenizer → Bool → Tokenizer → Type 0) → (StateName → Tokenizer → ℕ) → ℕ → (Bool → Tokenizer → Type 0) → List Attempt → State → Tokenizer → Type 0
Goes ready ends weight n End [] st T =
    MayGo ready weight n st T × ((ok : Bool) (U : Tokenizer) → ends_state ends st T ok U → End ok U)
Goes ready ends weight n End (f ∷ fs) st T =
    MayGo ready weight n st T × ((ok : Bool) (U : Tokenizer) → U.attempts ≡ [] → ends_state ends st T ok U → Goes ready ends weight n End fs (going_state f ok) (going_in f ok U))

-- a run goes on well from what a step answers
abbrev pub GoesOn : (StateName → Tokenizer → Type 0) → (StateName → Tokenizer → Bool → Tokenizer → Type 0) → (StateName → Tokenizer → ℕ) → ℕ → (Bool → Tokenizer → Type 0) → Stepped → Type 0
GoesOn ready ends weight n End r = Goes ready ends weight n End r.left.attempts r.state (settled r.left)

-- the laws of a layer: from each state whose condition holds, one step goes on well
abbrev pub Lawful : (StateName → Tokenizer → Type 0) → (StateName → Tokenizer → Stepped) → (StateName → Tokenizer → Bool → Tokenizer → Type 0) → (StateName → Tokenizer → ℕ) → Type 0
Lawful ready step ends weight =
    (s : StateName) (T : Tokenizer) → T.attempts ≡ [] → ready s T → GoesOn ready ends weight (weight s T) (ends s T) (step s T)
