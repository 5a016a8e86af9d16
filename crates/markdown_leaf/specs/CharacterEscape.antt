-- What the states of a character escape do, and how runs from them end.
use Rattle.std.specs.Prelude.{ℕ, Bool, ◌&&◌, ◌||◌, nat_le, ◌==◌, if◌then◌else◌, Option, Some, None, List, [], ◌∷◌}
use Rattle.markdown_engine.specs.Operations.{Op, Enter, Exit, Consume, done, current_of, IsOpen}
use Rattle.markdown_engine.specs.PastTree.{EndsAs, TreeReading}
use Rattle.markdown_engine.specs.StateRuns.{Stepped, stepped}
use Rattle.markdown_model.specs.CodeTests.{is_ascii_punctuation, next_is}
use Rattle.markdown_model.specs.SingleConstructs as SingleConstructs
use Rattle.markdown_plan.specs.Plan.{Plan, KeepsAs}
use Rattle.markdown_event.specs.declared.event.Name.TheVariants as N
use Rattle.markdown_event.specs.declared.state.State.TheVariants.{Next, Nok}
use Rattle.markdown_event.specs.declared.state.State.TheVariants as State
use Rattle.markdown_event.specs.declared.state.StateName.TheVariants.{CharacterEscapeInside, CharacterEscapeStart}
use Rattle.markdown_engine.specs.declared.tokenizer.Tokenizer.{Tokenizer}
use Rattle.markdown_engine.specs.StateWords.{StateWords}
use Rattle.markdown_event.specs.declared.state.StateName.{StateName}
use Rattle.std.specs.Str.{byte}

abbrev pub is_punctuation : ℕ → Bool
is_punctuation c = (nat_le (byte "!") c && nat_le c (byte "/")) || (nat_le (byte ":") c && nat_le c (byte "@")) || (nat_le (byte "[") c && nat_le c (byte "`")) || (nat_le (byte "{") c && nat_le c (byte "~"))

abbrev pub opening : List Op
opening = Enter N.CharacterEscape ∷ Enter N.CharacterEscapeMarker ∷ Consume ∷ Exit N.CharacterEscapeMarker ∷ []

abbrev pub value : List Op
value = Enter N.CharacterEscapeValue ∷ Consume ∷ Exit N.CharacterEscapeValue ∷ Exit N.CharacterEscape ∷ []

abbrev pub is_on : Tokenizer → Bool
is_on T = T.parse_state.now.options.now.constructs.character_escape

-- by the current code
abbrev pub start_at : Bool → Option ℕ → Tokenizer → Stepped
start_at on None T = stepped Nok T
start_at on (Some c) T = if on && (c == byte "\\") then stepped (Next CharacterEscapeInside) (done opening T) else stepped Nok T

abbrev pub start_step : Tokenizer → Stepped
start_step T = start_at (is_on T) (current_of T) T

abbrev pub inside_at : Option ℕ → Tokenizer → Stepped
inside_at None T = stepped Nok T
inside_at (Some c) T = if is_punctuation c then stepped State.Ok (done value T) else stepped Nok T

abbrev pub inside_step : Tokenizer → Stepped
inside_step T = inside_at (current_of T) T

-- How runs end.

-- the codes at hand read as an escape, where escapes are on
abbrev pub escape_here : Tokenizer → TreeReading
escape_here T = SingleConstructs.character_escape_here T.parse_state.now.options.now

abbrev pub start_ends : Tokenizer → Bool → Tokenizer → Type 0
start_ends T ok U = EndsAs (escape_here T) None T.tokenize_state T ok U

-- punctuation comes next
abbrev pub inside_plan : Plan
inside_plan cs = if next_is is_ascii_punctuation cs then Some value else None

abbrev pub inside_ends : Tokenizer → Bool → Tokenizer → Type 0
inside_ends T ok U = KeepsAs 1 inside_plan T ok U

-- The states.

abbrev pub start_words : StateWords
start_words = record { ready = λ T. Unit {0}; step = start_step; ends = start_ends; rank = λ T. 2 }

abbrev pub inside_words : StateWords
inside_words = record { ready = IsOpen N.CharacterEscape; step = inside_step; ends = inside_ends; rank = λ T. 1 }

-- a part of what is said of these states, and of any other as it is given
abbrev pub said {ℓ} : {A : Type ℓ} → (StateWords → A) → (StateName → A) → StateName → A
said part other CharacterEscapeStart = part start_words
said part other CharacterEscapeInside = part inside_words
said part other s = other s

-- all of it
abbrev pub states : (StateName → StateWords) → StateName → StateWords
states other s = said (λ (w : StateWords). w) other s
