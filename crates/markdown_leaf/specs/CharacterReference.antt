-- What the states of a character reference do, and how runs from them end.
use Rattle.std.specs.Prelude.{◌≡◌, ℕ, ◌+◌, ◌-◌, ◌≤◌, Bool, true, not, ◌&&◌, ◌||◌, ◌==◌, nat_lt, if◌then◌else◌, Option, Some, None, is_some, List, [], ◌∷◌, ◌++◌, length, codes}
use Rattle.std.specs.List.{list_all, slice_range}
use Rattle.markdown_content.specs.Codes.{Code}
use Rattle.markdown_content.specs.ListFunctions.{rest_of}
use Rattle.markdown_engine.specs.Operations.{Op, Enter, Exit, Consume, done, current_of, IsOpen, scratched}
use Rattle.markdown_engine.specs.PastTree.{EndsAs, TreeReading}
use Rattle.markdown_engine.specs.StateRuns.{Stepped, stepped}
use Rattle.markdown_engine.specs.TreeOps.{consumes}
use Rattle.markdown_model.specs.CodeTests.{is_value, is_among, is_between, next_is, values_of}
use Rattle.markdown_model.specs.Grammar.{span}
use Rattle.markdown_model.specs.Setting.{references_of}
use Rattle.markdown_model.specs.SingleConstructs as SingleConstructs
use Rattle.markdown_util.specs.Reference.{Table, IsReferenceMarker, named_value, value_size_max, is_value_byte}
use Rattle.markdown_plan.specs.Plan.{Plan, preceded, DoesAs}
use Rattle.markdown_event.specs.declared.event.Name.TheVariants as N
use Rattle.markdown_event.specs.declared.state.State.TheVariants.{Next, Retry, Nok}
use Rattle.markdown_event.specs.declared.state.State.TheVariants as State
use Rattle.markdown_event.specs.declared.state.State.{State as StateType}
use Rattle.markdown_event.specs.declared.state.StateName.TheVariants.{CharacterReferenceOpen, CharacterReferenceNumeric, CharacterReferenceValue, CharacterReferenceStart}
use Rattle.markdown_engine.specs.declared.tokenizer.TokenizeState.{TokenizeState}
use Rattle.markdown_engine.specs.declared.tokenizer.Tokenizer.{Tokenizer}
use Rattle.markdown_engine.specs.StateWords.{StateWords}
use Rattle.markdown_event.specs.declared.state.StateName.{StateName}
use Rattle.std.specs.Str.{byte}

-- The scratch fields: the kind of the value, and how many of its codes are passed.

abbrev pub marked : ℕ → TokenizeState → TokenizeState
marked m s = record s { marker = m }

abbrev pub sized : ℕ → TokenizeState → TokenizeState
sized n s = record s { size = n }

abbrev pub rested : TokenizeState → TokenizeState
rested s = record s { marker = 0; size = 0 }

pub record IsAtRest (T : Tokenizer) : Type 0 where
  pub marker : T.tokenize_state.marker ≡ 0
  pub size : T.tokenize_state.size ≡ 0

-- after the `&`
pub record IsOpened (T : Tokenizer) : Type 0 where
  pub whole : IsOpen N.CharacterReference T
  pub marker : T.tokenize_state.marker ≡ 0
  pub size : T.tokenize_state.size ≡ 0

-- the codes of the value that are passed: so many as are counted, just before the place
abbrev pub read_of : Tokenizer → List ℕ
read_of T = slice_range (values_of T.cursor.codes) (T.cursor.at - T.tokenize_state.size) T.cursor.at

-- in the value: so many codes are passed, each of them one of its kind
pub record IsValue (T : Tokenizer) : Type 0 where
  pub count : length (read_of T) ≡ T.tokenize_state.size
  pub passed : list_all (is_value_byte T.tokenize_state.marker) (read_of T) ≡ true
  pub value : IsOpen N.CharacterReferenceValue T
  pub whole : rest_of T.stack ≡ N.CharacterReference ∷ rest_of (rest_of T.stack)
  pub marker : IsReferenceMarker T.tokenize_state.marker
  pub size : T.tokenize_state.size ≤ value_size_max T.tokenize_state.marker

-- Operations.

abbrev pub opening : List Op
opening = Enter N.CharacterReference ∷ Enter N.CharacterReferenceMarker ∷ Consume ∷ Exit N.CharacterReferenceMarker ∷ []

abbrev pub number_sign : List Op
number_sign = Enter N.CharacterReferenceMarkerNumeric ∷ Consume ∷ Exit N.CharacterReferenceMarkerNumeric ∷ []

abbrev pub hexadecimal_sign : List Op
hexadecimal_sign =
    Enter N.CharacterReferenceMarkerHexadecimal ∷ Consume ∷ Exit N.CharacterReferenceMarkerHexadecimal ∷ Enter N.CharacterReferenceValue ∷ []

abbrev pub value_start : List Op
value_start = Enter N.CharacterReferenceValue ∷ []

abbrev pub closing : List Op
closing =
    Exit N.CharacterReferenceValue ∷ Enter N.CharacterReferenceMarkerSemi ∷ Consume ∷ Exit N.CharacterReferenceMarkerSemi ∷ Exit N.CharacterReference ∷ []

-- Names.

abbrev pub has_value : Table → List ℕ → Bool
has_value table name = is_some (named_value table name)

-- a value of this kind may be these bytes: a named one is a name of the table
abbrev pub is_known : Table → ℕ → List ℕ → Bool
is_known names marker value = not (marker == byte "&") || has_value names value

-- the names that the options of a run choose
abbrev pub references_here : Tokenizer → Table
references_here T = references_of T.parse_state.now.options.now

-- The states, by the current code.

abbrev pub is_on : Tokenizer → Bool
is_on T = T.parse_state.now.options.now.constructs.character_reference

abbrev pub start_at : Bool → Option ℕ → Tokenizer → Stepped
start_at on None T = stepped Nok T
start_at on (Some c) T = if on && (c == byte "&") then stepped (Next CharacterReferenceOpen) (done opening T) else stepped Nok T

abbrev pub start_step : Tokenizer → Stepped
start_step T = start_at (is_on T) (current_of T) T

-- the value is entered, which is of this kind, and this state follows
abbrev pub value_begun : ℕ → StateType → Tokenizer → Stepped
value_begun marker state T = stepped state (scratched (marked marker T.tokenize_state) (done value_start T))

abbrev pub named_step : Tokenizer → Stepped
named_step T = stepped (Retry CharacterReferenceValue) (scratched (marked (byte "&") T.tokenize_state) (done value_start T))

abbrev pub open_at : Option ℕ → Tokenizer → Stepped
open_at None T = named_step T
open_at (Some c) T = if c == byte "#" then stepped (Next CharacterReferenceNumeric) (done number_sign T) else named_step T

abbrev pub open_step : Tokenizer → Stepped
open_step T = open_at (current_of T) T

abbrev pub decimal_step : Tokenizer → Stepped
decimal_step T = stepped (Retry CharacterReferenceValue) (scratched (marked (byte "#") T.tokenize_state) (done value_start T))

abbrev pub numeric_at : Option ℕ → Tokenizer → Stepped
numeric_at None T = decimal_step T
numeric_at (Some c) T =
    if c == byte "x" || c == byte "X"
    then stepped (Next CharacterReferenceValue) (scratched (marked (byte "x") T.tokenize_state) (done hexadecimal_sign T))
    else decimal_step T

abbrev pub numeric_step : Tokenizer → Stepped
numeric_step T = numeric_at (current_of T) T

-- a value of this kind, of so many codes, goes on with this code
unfoldable pub is_taken : ℕ → ℕ → ℕ → Bool
is_taken marker size c = nat_lt size (value_size_max marker) && is_value_byte marker c

abbrev pub value_at : Option ℕ → Tokenizer → Stepped
value_at None T = stepped Nok (scratched (rested T.tokenize_state) T)
value_at (Some c) T =
    if ((c == byte ";") && nat_lt 0 T.tokenize_state.size) && is_known (references_here T) T.tokenize_state.marker (read_of T)
    then stepped State.Ok (scratched (rested T.tokenize_state) (done closing T))
    else (if is_taken T.tokenize_state.marker T.tokenize_state.size c
    then stepped (Next CharacterReferenceValue) (scratched (sized (T.tokenize_state.size + 1) T.tokenize_state) (done (Consume ∷ []) T))
    else stepped Nok (scratched (rested T.tokenize_state) T))

abbrev pub value_step : Tokenizer → Stepped
value_step T = value_at (current_of T) T

-- How runs end.

-- the codes at hand read as a reference, where these are on
abbrev pub reference_here : Tokenizer → TreeReading
reference_here T = SingleConstructs.character_reference_here T.parse_state.now.options.now (references_here T)

abbrev pub start_ends : Tokenizer → Bool → Tokenizer → Type 0
start_ends T ok U = EndsAs (reference_here T) None T.tokenize_state T ok U

abbrev pub is_value_code : ℕ → Code → Bool
is_value_code marker c = is_value_byte marker c.value

-- so many codes as a value of this kind has, which may be one
abbrev pub is_whole : Table → ℕ → List ℕ → Bool
is_whole names marker value = is_between 1 (value_size_max marker) (length value) && is_known names marker value

-- the rest of a value of this kind behind these codes of it: those that go on with it, and a `;`
abbrev pub value_of : Table → ℕ → List ℕ → List Code × List Code → Option (List Op)
value_of names marker read s =
    if is_whole names marker (read ++ values_of s.0) && next_is (is_value (byte ";")) s.1 then Some (consumes s.0 ++ closing) else None

abbrev pub value_plan : Table → ℕ → List ℕ → Plan
value_plan names marker read cs = value_of names marker read (span (is_value_code marker) cs)

abbrev pub value_ends : Tokenizer → Bool → Tokenizer → Type 0
value_ends T ok U = DoesAs 2 (value_plan (references_here T) T.tokenize_state.marker (read_of T)) (rested T.tokenize_state) T ok U

-- after the `#`: an `x` and hexadecimal digits, or decimal digits
abbrev pub numeric_plan : Table → Plan
numeric_plan names cs =
    if next_is (is_among (codes "xX")) cs then preceded hexadecimal_sign (value_plan names (byte "x") [] (rest_of cs)) else preceded value_start (value_plan names (byte "#") [] cs)

abbrev pub numeric_ends : Tokenizer → Bool → Tokenizer → Type 0
numeric_ends T ok U = DoesAs 1 (numeric_plan (references_here T)) (rested T.tokenize_state) T ok U

-- after the `&`: a number, or a name
abbrev pub named_plan : Table → Plan
named_plan names cs = preceded value_start (value_plan names (byte "&") [] cs)

abbrev pub open_plan : Table → Plan
open_plan names cs = if next_is (is_value (byte "#")) cs then preceded number_sign (numeric_plan names (rest_of cs)) else named_plan names cs

abbrev pub open_ends : Tokenizer → Bool → Tokenizer → Type 0
open_ends T ok U = DoesAs 1 (open_plan (references_here T)) (rested T.tokenize_state) T ok U

-- The states.

abbrev pub start_words : StateWords
start_words = record { ready = IsAtRest; step = start_step; ends = start_ends; rank = λ T. 4 }

abbrev pub open_words : StateWords
open_words = record { ready = IsOpened; step = open_step; ends = open_ends; rank = λ T. 3 }

abbrev pub numeric_words : StateWords
numeric_words = record { ready = IsOpened; step = numeric_step; ends = numeric_ends; rank = λ T. 2 }

abbrev pub value_words : StateWords
value_words = record { ready = IsValue; step = value_step; ends = value_ends; rank = λ T. 1 }

-- a part of what is said of these states, and of any other as it is given
abbrev pub said {ℓ} : {A : Type ℓ} → (StateWords → A) → (StateName → A) → StateName → A
said part other CharacterReferenceStart = part start_words
said part other CharacterReferenceOpen = part open_words
said part other CharacterReferenceNumeric = part numeric_words
said part other CharacterReferenceValue = part value_words
said part other s = other s

-- all of it
abbrev pub states : (StateName → StateWords) → StateName → StateWords
states other s = said (λ (w : StateWords). w) other s
