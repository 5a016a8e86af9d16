-- How many codes a step passes.
use Rattle.std.specs.Prelude.{◌≡◌, ◌⊎◌, IsSome}
use Rattle.markdown_content.specs.Place.{Place, moved, code_at}
use Rattle.markdown_event.specs.declared.state.State.{State}
use Rattle.markdown_event.specs.declared.state.State.TheVariants.{Next, Retry, Ok, Nok}
use Rattle.markdown_event.specs.declared.state.StateName.{StateName}
use Rattle.markdown_engine.specs.StateRuns.{Stepped}
use Rattle.markdown_engine.specs.declared.tokenizer.Tokenizer.{Tokenizer}
use Rattle.markdown_run.specs.Layer.{ready_of, step_of}

-- Next passes the code at the place, Ok that code or none, Retry and Nok none.
abbrev pub Passes : State → Place → Place → Type 0
Passes (Next s) p q = IsSome (code_at p) × (q ≡ moved p)
Passes Ok p q = (q ≡ p) ⊎ (q ≡ moved p)
Passes (Retry s) p q = q ≡ p
Passes Nok p q = q ≡ p

abbrev pub PassesCodes : Tokenizer → Stepped → Type 0
PassesCodes T r = Passes r.state T.cursor r.left.cursor

-- so does each step of each state that may be called
abbrev pub StepsPassCodes : Type 0
StepsPassCodes = (s : StateName) (T : Tokenizer) → ready_of s T → PassesCodes T (step_of s T)
