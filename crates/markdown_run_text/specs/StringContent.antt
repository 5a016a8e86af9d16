-- What the states of a string do, and how runs from them end.
use Rattle.std.specs.Prelude.{◌≡◌, ◌≢◌, ℕ, Bool, true, false, List, [], ◌∷◌, codes, Option, Some, None}
use Rattle.markdown_engine.specs.Operations.{attempted, scratched, registered, current_of, ahead}
use Rattle.markdown_engine.specs.StateRuns.{Stepped, stepped}
use Rattle.markdown_engine.specs.StateWords.{StateWords}
use Rattle.markdown_content.specs.declared.configuration.Constructs.{Constructs}
use Rattle.markdown_event.specs.declared.resolve.ResolveName.TheVariants as R
use Rattle.markdown_event.specs.declared.state.State.TheVariants.{Next, Retry, Ok, Nok}
use Rattle.markdown_event.specs.declared.state.StateName.{StateName}
use Rattle.markdown_event.specs.declared.state.StateName.TheVariants as H
use Rattle.markdown_event.specs.declared.state.StateName.TheVariants.{CharacterEscapeStart, CharacterReferenceStart, DataStart, StringBefore, StringBeforeData}
use Rattle.markdown_engine.specs.declared.tokenizer.Tokenizer.{Tokenizer}
use Rattle.markdown_leaf.specs.CharacterEscape.{escape_here}
use Rattle.markdown_leaf.specs.CharacterReference.{IsAtRest, reference_here}
use Rattle.markdown_model.specs.Elements.{Choice, string_choice}
use Rattle.markdown_run_text.specs.RunOverElements.{Finishes}
use Rattle.markdown_run_text.specs.Row.{EndsRest}
use Rattle.markdown_run_text.specs.RunSetting.{setting_of}
use Rattle.markdown_run_text.specs.TryTable.{TriesTable, codes_in, said_at}

-- what is tried at which codes
abbrev pub string_tries : TriesTable StateName
string_tries = (codes "&", CharacterReferenceStart) ∷ (codes "\\", CharacterEscapeStart) ∷ []

-- the codes at which data stops: those at which something is tried
abbrev pub string_markers : List ℕ
string_markers = codes_in string_tries

abbrev pub string_marked : Tokenizer → Tokenizer
string_marked T = scratched (record T.tokenize_state { markers = string_markers }) T

abbrev pub start_step : Tokenizer → Stepped
start_step T = stepped (Retry StringBefore) (string_marked T)

-- with the passes of a string registered
abbrev pub string_passed : Tokenizer → Tokenizer
string_passed T = registered R.String (registered R.Data T)

-- a construct is tried, and where it does not hold, data is read
abbrev pub tries_at : Option StateName → Tokenizer → Stepped
tries_at None T = stepped (Retry StringBeforeData) T
tries_at (Some construct) T = stepped (Retry construct) (attempted false (Next StringBefore) (Next StringBeforeData) T)

-- by the current code
abbrev pub before_at : Option ℕ → Tokenizer → Stepped
before_at None T = stepped Ok (string_passed T)
before_at (Some v) T = tries_at (said_at string_tries v) T

abbrev pub before_step : Tokenizer → Stepped
before_step T = before_at (current_of T) T

abbrev pub before_data_step : Tokenizer → Stepped
before_data_step T = stepped (Retry DataStart) (attempted false (Next StringBefore) Nok T)

-- When they may be called.

-- the fields in which a reference counts are at rest, and those in which an end of a label does
pub record StringStartReady (T : Tokenizer) : Type 0 where
  pub rest : IsAtRest T
  pub ends : EndsRest T.tokenize_state

-- besides, data stops at the markers of a string
pub record StringBeforeReady (T : Tokenizer) : Type 0 where
  pub marked : T.tokenize_state.markers ≡ string_markers
  pub rest : IsAtRest T
  pub ends : EndsRest T.tokenize_state

-- a code stands at the place, and neither an escape nor a reference
pub record BeforeDataReady (T : Tokenizer) : Type 0 where
  pub before : StringBeforeReady T
  pub some_code : current_of T ≢ None
  pub no_escape : escape_here T (ahead T) ≡ None
  pub no_reference : reference_here T (ahead T) ≡ None

-- How runs end.

-- which constructs are looked for
abbrev pub is_on : Tokenizer → Constructs
is_on T = T.parse_state.now.options.now.constructs

-- the elements of a string, by what the run is given
abbrev pub string_here : Tokenizer → Choice
string_here T = string_choice (setting_of T.parse_state.now)

-- the codes from T on are those of a row, which is that of their elements as read, but for how data is cut, and U is T past it, with the passes of a
-- string registered
abbrev pub before_ends : Tokenizer → Bool → Tokenizer → Type 0
before_ends T true U = Finishes (string_here T) string_passed T U
before_ends T false U = ⊥

abbrev pub start_ends : Tokenizer → Bool → Tokenizer → Type 0
start_ends T ok U = before_ends (string_marked T) ok U

-- The states.

abbrev pub start_words : StateWords
start_words = record { ready = StringStartReady; step = start_step; ends = start_ends; rank = λ T. 7 }

abbrev pub before_words : StateWords
before_words = record { ready = StringBeforeReady; step = before_step; ends = before_ends; rank = λ T. 6 }

abbrev pub before_data_words : StateWords
before_data_words = record { ready = BeforeDataReady; step = before_data_step; ends = before_ends; rank = λ T. 5 }

-- a part of what is said of these states, and of any other as it is given
abbrev pub said {ℓ} : {A : Type ℓ} → (StateWords → A) → (StateName → A) → StateName → A
said part other H.StringStart = part start_words
said part other H.StringBefore = part before_words
said part other H.StringBeforeData = part before_data_words
said part other s = other s

-- all of it
abbrev pub states : (StateName → StateWords) → StateName → StateWords
states other s = said (λ (w : StateWords). w) other s
