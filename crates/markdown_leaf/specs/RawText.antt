-- What the states of code spans and math spans do, and how runs from them end.
use Rattle.std.specs.Prelude.{◌≡◌, ℕ, ◌+◌, Bool, false, ◌&&◌, ◌||◌, not, ◌==◌, if◌then◌else◌, Option, Some, None, codes, List, [], ◌∷◌, ◌++◌, length}
use Rattle.markdown_content.specs.Codes.{Code, is_line_ending}
use Rattle.markdown_engine.specs.Operations.{Op, Enter, Exit, Consume, IsOpen, ahead, done, current_of, previous_of, scratched}
use Rattle.markdown_engine.specs.PastTree.{EndsAs, TreeReading}
use Rattle.markdown_content.specs.Place.{last_of}
use Rattle.markdown_notes.specs.RunIndex.{last_runs, leading, rules_out}
use Rattle.markdown_engine.specs.StateRuns.{Stepped, stepped}
use Rattle.markdown_engine.specs.Steady.{alone_among}
use Rattle.markdown_content.specs.Tree.{◌⊕◌, leaf}
use Rattle.markdown_engine.specs.TreeOps.{consumes, ops_of}
use Rattle.markdown_model.specs.CodeTests.{is_value}
use Rattle.markdown_model.specs.Grammar.{span}
use Rattle.markdown_model.specs.LeafConstructs.{SpanNames, code_names, math_names, closing}
use Rattle.markdown_model.specs.SingleConstructs.{follows_escape, raw_text_here}
use Rattle.markdown_model.specs.TextLines.{line_leaves}
use Rattle.markdown_plan.specs.Plan.{Plan, preceded, DoesAs}
use Rattle.markdown_plan.specs.ScratchFields.{Fits, AreOpen, with_size, with_size_b}
use Rattle.markdown_plan.specs.LateNames.{Naming, NamesAs, under, renamed, HasEvent}
use Rattle.markdown_event.specs.declared.event.Name.TheVariants as N
use Rattle.markdown_event.specs.declared.state.State.TheVariants.{Next, Retry, Nok}
use Rattle.markdown_event.specs.declared.state.State.TheVariants as State
use Rattle.markdown_event.specs.declared.state.StateName.TheVariants.{RawTextSequenceOpen, RawTextBetween, RawTextData, RawTextSequenceClose, RawTextStart}
use Rattle.markdown_engine.specs.declared.tokenizer.TokenizeState.{TokenizeState}
use Rattle.markdown_engine.specs.declared.tokenizer.Tokenizer.{Tokenizer}
use Rattle.markdown_engine.specs.StateWords.{StateWords}
use Rattle.markdown_event.specs.declared.state.StateName.{StateName}
use Rattle.std.specs.Str.{byte}

-- The scratch fields.

abbrev pub names_in : TokenizeState → SpanNames
names_in s = record { whole = s.token_1; sequence = s.token_2; text = s.token_3 }

-- for a span of this marker and these names, past its first marker
abbrev pub begun : ℕ → SpanNames → TokenizeState → TokenizeState
begun marker names s = record s { marker = marker; token_1 = names.whole; token_2 = names.sequence; token_3 = names.text }

-- at rest
abbrev pub rested : TokenizeState → TokenizeState
rested s = record s { marker = 0; size = 0; size_b = 0; token_1 = N.Data; token_2 = N.Data; token_3 = N.Data }

-- Where a span may start.

abbrev pub is_same : ℕ → Option ℕ → Bool
is_same n None = false
is_same n (Some m) = m == n

-- the marker stands before, and is not the value of an escape
abbrev pub is_barred : ℕ → Tokenizer → Bool
is_barred marker T = is_same marker (previous_of T) && not (follows_escape T.events)

abbrev pub code_is_on : Tokenizer → Bool
code_is_on T = T.parse_state.now.options.now.constructs.code_text

abbrev pub math_is_on : Tokenizer → Bool
math_is_on T = T.parse_state.now.options.now.constructs.math_text

abbrev pub single_dollar : Tokenizer → Bool
single_dollar T = T.parse_state.now.options.now.math_text_single_dollar

-- What the states do.

abbrev pub opened : ℕ → SpanNames → Tokenizer → Stepped
opened marker names T =
    stepped (Retry RawTextSequenceOpen) (scratched (begun marker names T.tokenize_state) (done (Enter names.whole ∷ Enter names.sequence ∷ []) T))

-- by the current code
abbrev pub start_at : Option ℕ → Tokenizer → Stepped
start_at None T = stepped Nok T
start_at (Some c) T =
    if c == byte "`" && (code_is_on T && not (is_barred (byte "`") T)) then opened (byte "`") code_names T
    else (if c == byte "$" && (math_is_on T && not (is_barred (byte "$") T)) then opened (byte "$") math_names T
    else stepped Nok T)

abbrev pub start_step : Tokenizer → Stepped
start_step T = start_at (current_of T) T

-- a dollar alone, where that opens nothing
abbrev pub is_too_short : Bool → TokenizeState → Bool
is_too_short single s = s.marker == byte "$" && (s.size == 1 && not single)

abbrev pub after_opening : Tokenizer → Stepped
after_opening T =
    if is_too_short (single_dollar T) T.tokenize_state then stepped Nok (scratched (rested T.tokenize_state) T)
    else stepped (Retry RawTextBetween) (done (Exit T.tokenize_state.token_2 ∷ []) T)

abbrev pub sequence_open_at : Option ℕ → Tokenizer → Stepped
sequence_open_at None T = after_opening T
sequence_open_at (Some c) T =
    if c == T.tokenize_state.marker
    then stepped (Next RawTextSequenceOpen) (scratched (with_size (T.tokenize_state.size + 1) T.tokenize_state) (done (Consume ∷ []) T))
    else after_opening T

abbrev pub sequence_open_step : Tokenizer → Stepped
sequence_open_step T = sequence_open_at (current_of T) T

abbrev pub between_at : Option ℕ → Tokenizer → Stepped
between_at None T = stepped Nok (scratched (rested T.tokenize_state) T)
between_at (Some c) T =
    if c == byte "\n" then stepped (Next RawTextBetween) (done (Enter N.LineEnding ∷ Consume ∷ Exit N.LineEnding ∷ []) T)
    else (if c == T.tokenize_state.marker
    then stepped (Retry RawTextSequenceClose) (done (Enter T.tokenize_state.token_2 ∷ []) T)
    else stepped (Retry RawTextData) (done (Enter T.tokenize_state.token_3 ∷ []) T))

abbrev pub between_step : Tokenizer → Stepped
between_step T = between_at (current_of T) T

abbrev pub after_data : Tokenizer → Stepped
after_data T = stepped (Retry RawTextBetween) (done (Exit T.tokenize_state.token_3 ∷ []) T)

abbrev pub data_at : Option ℕ → Tokenizer → Stepped
data_at None T = after_data T
data_at (Some c) T =
    if c == byte "\n" || c == T.tokenize_state.marker then after_data T
    else stepped (Next RawTextData) (done (Consume ∷ []) T)

abbrev pub data_step : Tokenizer → Stepped
data_step T = data_at (current_of T) T

-- data does other than go on at the marker alone, line endings aside
abbrev pub data_stops : TokenizeState → Option (List ℕ)
data_stops s = alone_among (codes "`$") s.marker

abbrev pub after_run : Tokenizer → Stepped
after_run T =
    if T.tokenize_state.size_b == T.tokenize_state.size
    then stepped State.Ok (scratched (rested T.tokenize_state) (done (Exit T.tokenize_state.token_2 ∷ Exit T.tokenize_state.token_1 ∷ []) T))
    else stepped (Retry RawTextBetween) (scratched (with_size_b 0 T.tokenize_state) (done (Exit T.tokenize_state.token_3 ∷ []) (renamed T.tokenize_state.token_3 T)))

abbrev pub sequence_close_at : Option ℕ → Tokenizer → Stepped
sequence_close_at None T = after_run T
sequence_close_at (Some c) T =
    if c == T.tokenize_state.marker
    then stepped (Next RawTextSequenceClose) (scratched (with_size_b (T.tokenize_state.size_b + 1) T.tokenize_state) (done (Consume ∷ []) T))
    else after_run T

abbrev pub sequence_close_step : Tokenizer → Stepped
sequence_close_step T = sequence_close_at (current_of T) T

-- When they may be called; outside a run of markers none is counted.

pub record RawTextStartReady (T : Tokenizer) : Type 0 where
  pub rest : T.tokenize_state ≡ rested T.tokenize_state
  pub fits : Fits 0 T

-- the marker is no line ending
abbrev pub MarkerIsOnLine : Tokenizer → Type 0
MarkerIsOnLine T = (T.tokenize_state.marker == byte "\n") ≡ false

pub record SequenceOpenReady (T : Tokenizer) : Type 0 where
  pub marker : MarkerIsOnLine T
  pub stand_open : AreOpen T.tokenize_state.token_2 T.tokenize_state.token_1 T
  pub uncounted : T.tokenize_state.size_b ≡ 0
  pub fits : Fits T.tokenize_state.size T

pub record BetweenReady (T : Tokenizer) : Type 0 where
  pub marker : MarkerIsOnLine T
  pub stand_open : IsOpen T.tokenize_state.token_1 T
  pub uncounted : T.tokenize_state.size_b ≡ 0
  pub fits : Fits 0 T

pub record DataReady (T : Tokenizer) : Type 0 where
  pub marker : MarkerIsOnLine T
  pub stand_open : AreOpen T.tokenize_state.token_3 T.tokenize_state.token_1 T
  pub uncounted : T.tokenize_state.size_b ≡ 0
  pub fits : Fits 0 T

pub record SequenceCloseReady (T : Tokenizer) : Type 0 where
  pub marker : MarkerIsOnLine T
  pub stand_open : AreOpen T.tokenize_state.token_2 T.tokenize_state.token_1 T
  pub some : HasEvent T
  pub entered : renamed T.tokenize_state.token_2 T ≡ T
  pub fits : Fits T.tokenize_state.size_b T

-- What rules a span out before it is tried.

-- what is known of the runs is right; nothing is known where no byte was asked for
abbrev pub IsIndexed : Tokenizer → Type 0
IsIndexed T = T.tokenize_state.runs ≡ last_runs T.tokenize_state.runs.asked T.cursor.codes

-- a run of this marker may open a span here, and it is known that none as long follows
abbrev pub is_ruled_out : ℕ → Tokenizer → Bool
is_ruled_out marker T =
    let size : ℕ = leading marker (ahead T) in
    not (is_barred marker T) && rules_out T.tokenize_state.runs marker size (T.cursor.at + size)

-- How runs end.

-- the code before, with its places
abbrev pub code_just_before : Tokenizer → Option Code
code_just_before T = last_of T.cursor.codes T.cursor.at

-- the codes at hand read as a code span or as a math span, where these are on
abbrev pub span_at : Tokenizer → TreeReading
span_at T = raw_text_here T.parse_state.now.options.now (follows_escape T.events) (code_just_before T)

abbrev pub start_ends : Tokenizer → Bool → Tokenizer → Type 0
start_ends T ok U = EndsAs (span_at T) None T.tokenize_state T ok U

-- what is inside a span and its closing run, and the span's end
abbrev pub closed_ops : SpanNames → Option ((List (List Code) × List Code) × List Code) → Option (List Op)
closed_ops names None = None
closed_ops names (Some r) = Some (ops_of (line_leaves names.text r.0.0 ⊕ leaf names.sequence r.0.1) ++ Exit names.whole ∷ [])

-- a span of this marker, these names, and an opening run of this size
module _ (marker : ℕ) (names : SpanNames) (size : ℕ) where
  -- after its opening run or any stretch inside
  abbrev pub inside_plan : Plan
  inside_plan cs = closed_ops names (closing (is_value marker) size cs)

  abbrev pub is_data : Code → Bool
  is_data c = not (is_line_ending c || is_value marker c)

  -- inside data: the rest of it
  abbrev pub data_plan : Plan
  data_plan cs = let s = span is_data cs in preceded (consumes s.0 ++ Exit names.text ∷ []) (inside_plan s.1)

  -- inside a run of markers, so many of which are passed: the closing run where the sizes are the same, else data
  abbrev pub run_naming : ℕ → Naming
  run_naming passed cs =
      let s = span (is_value marker) cs in
      if passed + length s.0 == size
      then Some (names.sequence, consumes s.0 ++ Exit names.sequence ∷ Exit names.whole ∷ [])
      else under names.text (preceded (consumes s.0 ++ Exit names.text ∷ []) (inside_plan s.1))

-- an opening run of this size will do
abbrev pub opens : Bool → ℕ → ℕ → Bool
opens single marker n = not (marker == byte "$" && (n == 1 && not single))

-- inside the opening run, so many markers of which are passed
abbrev pub opening_plan : Bool → ℕ → SpanNames → ℕ → Plan
opening_plan single marker names passed cs =
    let s = span (is_value marker) cs in
    if opens single marker (passed + length s.0)
    then preceded (consumes s.0 ++ Exit names.sequence ∷ []) (inside_plan marker names (passed + length s.0) s.1)
    else None

abbrev pub sequence_open_ends : Tokenizer → Bool → Tokenizer → Type 0
sequence_open_ends T ok U =
    let s : TokenizeState = T.tokenize_state in
    DoesAs 2 (opening_plan (single_dollar T) s.marker (names_in s) s.size) (rested s) T ok U

abbrev pub between_ends : Tokenizer → Bool → Tokenizer → Type 0
between_ends T ok U =
    let s : TokenizeState = T.tokenize_state in
    DoesAs 1 (inside_plan s.marker (names_in s) s.size) (rested s) T ok U

abbrev pub data_ends : Tokenizer → Bool → Tokenizer → Type 0
data_ends T ok U =
    let s : TokenizeState = T.tokenize_state in
    DoesAs 2 (data_plan s.marker (names_in s) s.size) (rested s) T ok U

abbrev pub sequence_close_ends : Tokenizer → Bool → Tokenizer → Type 0
sequence_close_ends T ok U =
    let s : TokenizeState = T.tokenize_state in
    NamesAs 1 (run_naming s.marker (names_in s) s.size s.size_b) (rested s) T ok U

-- The states.

-- at a marker a run is behind what stands between, and before other codes data is; a run that has ended comes before both
abbrev pub between_rank : Option ℕ → Tokenizer → ℕ
between_rank None T = 3
between_rank (Some c) T = if c == byte "\n" || c == T.tokenize_state.marker then 3 else 5

abbrev pub close_rank : Option ℕ → Tokenizer → ℕ
close_rank None T = 6
close_rank (Some c) T = if c == T.tokenize_state.marker then 2 else 6

abbrev pub start_words : StateWords
start_words = record { ready = RawTextStartReady; step = start_step; ends = start_ends; rank = λ T. 7 }

abbrev pub sequence_open_words : StateWords
sequence_open_words = record { ready = SequenceOpenReady; step = sequence_open_step; ends = sequence_open_ends; rank = λ T. 6 }

abbrev pub between_words : StateWords
between_words = record { ready = BetweenReady; step = between_step; ends = between_ends; rank = λ T. between_rank (current_of T) T }

abbrev pub data_words : StateWords
data_words = record { ready = DataReady; step = data_step; ends = data_ends; rank = λ T. 4 }

abbrev pub sequence_close_words : StateWords
sequence_close_words =
    record { ready = SequenceCloseReady; step = sequence_close_step; ends = sequence_close_ends; rank = λ T. close_rank (current_of T) T }

-- a part of what is said of these states, and of any other as it is given
abbrev pub said {ℓ} : {A : Type ℓ} → (StateWords → A) → (StateName → A) → StateName → A
said part other RawTextStart = part start_words
said part other RawTextSequenceOpen = part sequence_open_words
said part other RawTextBetween = part between_words
said part other RawTextData = part data_words
said part other RawTextSequenceClose = part sequence_close_words
said part other s = other s

-- all of it
abbrev pub states : (StateName → StateWords) → StateName → StateWords
states other s = said (λ (w : StateWords). w) other s
