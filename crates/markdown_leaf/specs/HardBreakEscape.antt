-- What the states of a hard break by a backslash do, and how runs from them end.
use Rattle.std.specs.Prelude.{ℕ, Bool, ◌&&◌, ◌==◌, if◌then◌else◌, Option, Some, None, List, [], ◌∷◌}
use Rattle.markdown_content.specs.Codes.{is_line_ending}
use Rattle.markdown_engine.specs.Operations.{Op, Enter, Exit, Consume, done, current_of, IsOpen}
use Rattle.markdown_engine.specs.PastTree.{EndsAs, TreeReading}
use Rattle.markdown_engine.specs.StateRuns.{Stepped, stepped}
use Rattle.markdown_model.specs.CodeTests.{next_is}
use Rattle.markdown_model.specs.SingleConstructs as SingleConstructs
use Rattle.markdown_plan.specs.Plan.{Plan, KeepsAs}
use Rattle.markdown_event.specs.declared.event.Name.TheVariants as N
use Rattle.markdown_event.specs.declared.state.State.TheVariants.{Next, Nok}
use Rattle.markdown_event.specs.declared.state.State.TheVariants as State
use Rattle.markdown_event.specs.declared.state.StateName.TheVariants.{HardBreakEscapeAfter, HardBreakEscapeStart}
use Rattle.markdown_engine.specs.declared.tokenizer.Tokenizer.{Tokenizer}
use Rattle.markdown_engine.specs.StateWords.{StateWords}
use Rattle.markdown_event.specs.declared.state.StateName.{StateName}
use Rattle.std.specs.Str.{byte}

abbrev pub opening : List Op
opening = Enter N.HardBreakEscape ∷ Consume ∷ []

abbrev pub closing : List Op
closing = Exit N.HardBreakEscape ∷ []

abbrev pub is_on : Tokenizer → Bool
is_on T = T.parse_state.now.options.now.constructs.hard_break_escape

-- by the current code
abbrev pub start_at : Bool → Option ℕ → Tokenizer → Stepped
start_at on None T = stepped Nok T
start_at on (Some c) T = if on && (c == byte "\\") then stepped (Next HardBreakEscapeAfter) (done opening T) else stepped Nok T

abbrev pub start_step : Tokenizer → Stepped
start_step T = start_at (is_on T) (current_of T) T

abbrev pub after_at : Option ℕ → Tokenizer → Stepped
after_at None T = stepped Nok T
after_at (Some c) T = if c == byte "\n" then stepped State.Ok (done closing T) else stepped Nok T

abbrev pub after_step : Tokenizer → Stepped
after_step T = after_at (current_of T) T

-- How runs end.

-- the codes at hand read as a hard break, where these are on
abbrev pub break_here : Tokenizer → TreeReading
break_here T = SingleConstructs.hard_break_escape_here T.parse_state.now.options.now

abbrev pub start_ends : Tokenizer → Bool → Tokenizer → Type 0
start_ends T ok U = EndsAs (break_here T) None T.tokenize_state T ok U

-- a line ending comes next
abbrev pub after_plan : Plan
after_plan cs = if next_is is_line_ending cs then Some closing else None

abbrev pub after_ends : Tokenizer → Bool → Tokenizer → Type 0
after_ends T ok U = KeepsAs 1 after_plan T ok U

-- The states.

abbrev pub start_words : StateWords
start_words = record { ready = λ T. Unit {0}; step = start_step; ends = start_ends; rank = λ T. 2 }

abbrev pub after_words : StateWords
after_words = record { ready = IsOpen N.HardBreakEscape; step = after_step; ends = after_ends; rank = λ T. 1 }

-- a part of what is said of these states, and of any other as it is given
abbrev pub said {ℓ} : {A : Type ℓ} → (StateWords → A) → (StateName → A) → StateName → A
said part other HardBreakEscapeStart = part start_words
said part other HardBreakEscapeAfter = part after_words
said part other s = other s

-- all of it
abbrev pub states : (StateName → StateWords) → StateName → StateWords
states other s = said (λ (w : StateWords). w) other s
