-- What the states of data do, and how runs from them end.
use Rattle.std.specs.Prelude.{ℕ, Bool, ◌||◌, false, ◌==◌, if◌then◌else◌, Option, Some, None, List, [], ◌∷◌}
use Rattle.std.specs.List.{list_any}
use Rattle.markdown_content.specs.Codes.{Code, is_line_ending}
use Rattle.markdown_engine.specs.Operations.{Op, Enter, Exit, Consume, done, current_of, ahead, exited, IsOpen}
use Rattle.markdown_engine.specs.PastTree.{EndsAs, TreeReading, passed}
use Rattle.markdown_engine.specs.StateRuns.{Stepped, stepped}
use Rattle.markdown_model.specs.CodeTests.{is_among, next_is}
use Rattle.markdown_model.specs.Grammar.{until}
use Rattle.markdown_model.specs.TextLines.{data_up_to, line_leaves, lines_of}
use Rattle.markdown_event.specs.declared.event.Name.TheVariants as N
use Rattle.markdown_event.specs.declared.state.State.TheVariants.{Next, Retry}
use Rattle.markdown_event.specs.declared.state.State.TheVariants as State
use Rattle.markdown_event.specs.declared.state.StateName.TheVariants.{DataAtBreak, DataInside, DataStart}
use Rattle.markdown_engine.specs.declared.tokenizer.TokenizeState.{TokenizeState}
use Rattle.markdown_engine.specs.declared.tokenizer.Tokenizer.{Tokenizer}
use Rattle.markdown_engine.specs.StateWords.{StateWords}
use Rattle.markdown_event.specs.declared.state.StateName.{StateName}
use Rattle.std.specs.Str.{byte}

-- one of these markers
abbrev pub marks : List ℕ → ℕ → Bool
marks markers v = list_any (λ n. v == n) markers

abbrev pub is_some_mark : List ℕ → Option ℕ → Bool
is_some_mark markers None = false
is_some_mark markers (Some v) = marks markers v

-- Data stops at its markers.

abbrev pub stops_of : TokenizeState → List Code → Bool
stops_of s = next_is (is_among s.markers)

-- the same, by the value at hand
abbrev pub stops_here : Tokenizer → ℕ → Bool
stops_here T v = marks T.tokenize_state.markers v

-- What the states do.

abbrev pub ending : List Op
ending = Enter N.LineEnding ∷ Consume ∷ Exit N.LineEnding ∷ []

abbrev pub opening : List Op
opening = Enter N.Data ∷ Consume ∷ []

-- past the code at hand, by its value
abbrev pub passing : ℕ → Tokenizer → Stepped
passing v T = if v == byte "\n" then stepped (Next DataAtBreak) (done ending T) else stepped (Next DataInside) (done opening T)

-- by the current code
abbrev pub start_at : Option ℕ → Tokenizer → Stepped
start_at None T = stepped (Retry DataAtBreak) T
start_at (Some v) T = if marks T.tokenize_state.markers v then passing v T else stepped (Retry DataAtBreak) T

abbrev pub start_step : Tokenizer → Stepped
start_step T = start_at (current_of T) T

-- past a line ending, or into a stretch at the code at hand
abbrev pub entering : ℕ → Tokenizer → Stepped
entering v T =
    if v == byte "\n" then stepped (Next DataAtBreak) (done ending T) else stepped (Retry DataInside) (done (Enter N.Data ∷ []) T)

abbrev pub at_break_at : Option ℕ → Tokenizer → Stepped
at_break_at None T = stepped State.Ok T
at_break_at (Some v) T = if stops_here T v then stepped State.Ok T else entering v T

abbrev pub at_break_step : Tokenizer → Stepped
at_break_step T = at_break_at (current_of T) T

abbrev pub leaving : Tokenizer → Stepped
leaving T = stepped (Retry DataAtBreak) (done (Exit N.Data ∷ []) T)

abbrev pub inside_at : Option ℕ → Tokenizer → Stepped
inside_at None T = leaving T
inside_at (Some v) T =
    if (v == byte "\n") || stops_here T v then leaving T else stepped (Next DataInside) (done (Consume ∷ []) T)

abbrev pub inside_step : Tokenizer → Stepped
inside_step T = inside_at (current_of T) T

-- in a stretch, data does other than go on at a marker alone, line endings aside
abbrev pub inside_stops : TokenizeState → Option (List ℕ)
inside_stops s = Some s.markers

-- How runs end.

-- all up to the next place where data stops, a leaf for each line and each line ending
abbrev pub more_data : (List Code → Bool) → TreeReading
more_data stops cs =
    let s = until stops cs in
    Some (line_leaves N.Data (lines_of s.0), s.1)

-- a line ending comes, or data stops
abbrev pub ends_stretch : (List Code → Bool) → List Code → Bool
ends_stretch stops cs = next_is is_line_ending cs || stops cs

-- the rest of the stretch at hand
abbrev pub stretch_of : Tokenizer → List Code
stretch_of T = (until (ends_stretch (stops_of T.tokenize_state)) (ahead T)).0

-- past the rest of the stretch, and out of it
abbrev pub past_stretch : Tokenizer → Tokenizer
past_stretch T = exited N.Data (passed (stretch_of T) T)

abbrev pub start_ends : Tokenizer → Bool → Tokenizer → Type 0
start_ends T ok U = EndsAs (data_up_to (stops_of T.tokenize_state)) None T.tokenize_state T ok U

abbrev pub at_break_ends : Tokenizer → Bool → Tokenizer → Type 0
at_break_ends T ok U = EndsAs (more_data (stops_of T.tokenize_state)) None T.tokenize_state T ok U

abbrev pub inside_ends : Tokenizer → Bool → Tokenizer → Type 0
inside_ends T ok U = at_break_ends (past_stretch T) ok U

-- The states.

abbrev pub start_words : StateWords
start_words = record { ready = λ T. Unit {0}; step = start_step; ends = start_ends; rank = λ T. 4 }

-- between stretches, before that in a stretch where one begins here, else behind it
abbrev pub rank_at : Option ℕ → Tokenizer → ℕ
rank_at None T = 1
rank_at (Some v) T = if (v == byte "\n") || stops_here T v then 1 else 3

abbrev pub at_break_words : StateWords
at_break_words = record { ready = λ T. Unit {0}; step = at_break_step; ends = at_break_ends; rank = λ T. rank_at (current_of T) T }

abbrev pub inside_words : StateWords
inside_words = record { ready = IsOpen N.Data; step = inside_step; ends = inside_ends; rank = λ T. 2 }

-- a part of what is said of these states, and of any other as it is given
abbrev pub said {ℓ} : {A : Type ℓ} → (StateWords → A) → (StateName → A) → StateName → A
said part other DataStart = part start_words
said part other DataAtBreak = part at_break_words
said part other DataInside = part inside_words
said part other s = other s

-- all of it
abbrev pub states : (StateName → StateWords) → StateName → StateWords
states other s = said (λ (w : StateWords). w) other s
