-- What the states of a destination do, and how runs from them end.
use Rattle.std.specs.Prelude.{◌≡◌, ℕ, ◌+◌, ◌-◌, Bool, true, false, ◌&&◌, ◌||◌, nat_lt, ◌==◌, if◌then◌else◌, codes, Option, Some, None, List, [], ◌∷◌, ◌++◌, drop}
use Rattle.markdown_content.specs.Codes.{Code, is_line_ending}
use Rattle.markdown_engine.specs.Operations.{Op, Enter, Exit, EnterLink, Consume, done, current_of, scratched}
use Rattle.markdown_engine.specs.PastTree.{EndsAs}
use Rattle.markdown_engine.specs.StateRuns.{Stepped, stepped}
use Rattle.markdown_engine.specs.TreeOps.{consumes}
use Rattle.markdown_event.specs.declared.event.Content.TheVariants as Content
use Rattle.markdown_event.specs.declared.event.Name.{Name}
use Rattle.markdown_event.specs.declared.event.Name.TheVariants as N
use Rattle.markdown_event.specs.declared.state.State.TheVariants.{Next, Retry, Nok}
use Rattle.markdown_event.specs.declared.state.State.TheVariants as State
use Rattle.markdown_event.specs.declared.state.StateName.TheVariants.{DestinationEnclosedBefore, DestinationEnclosed, DestinationEnclosedEscape, DestinationRaw, DestinationRawEscape, DestinationStart}
use Rattle.markdown_engine.specs.declared.tokenizer.TokenizeState.{TokenizeState}
use Rattle.markdown_engine.specs.declared.tokenizer.Tokenizer.{Tokenizer}
use Rattle.markdown_model.specs.CodeTests.{is_value, is_among, is_between, next_is}
use Rattle.markdown_model.specs.Grammar.{escaped_from}
use Rattle.markdown_model.specs.Resource.{DestinationNames, destination, raw_from}
use Rattle.markdown_plan.specs.Plan.{Plan, preceded, DoesAs, KeepsAs}
use Rattle.markdown_plan.specs.ScratchFields.{AreOpen, with_size}
use Rattle.markdown_plan.specs.ByteTests.{controls}
use Rattle.markdown_engine.specs.StateWords.{StateWords}
use Rattle.markdown_event.specs.declared.state.StateName.{StateName}
use Rattle.std.specs.Str.{byte}

abbrev pub names_in : TokenizeState → DestinationNames
names_in s = record { whole = s.token_1; literal = s.token_2; marker = s.token_3; raw = s.token_4; text = s.token_5 }

-- Tests on the value of a code.

abbrev pub control_value : ℕ → Bool
control_value v = is_between 1 31 v || v == 127

-- no destination without brackets begins so
abbrev pub bars_value : ℕ → Bool
bars_value v = control_value v || (v == byte " " || v == byte ")")

-- it ends before these where no parenthesis is open
abbrev pub stops_value : ℕ → Bool
stops_value v = v == byte "\t" || (v == byte "\n" || (v == byte " " || v == byte ")"))

-- What the states do.

abbrev pub opening : DestinationNames → List Op
opening names = Enter names.whole ∷ Enter names.literal ∷ Enter names.marker ∷ Consume ∷ Exit names.marker ∷ []

abbrev pub raw_opening : DestinationNames → List Op
raw_opening names = Enter names.whole ∷ Enter names.raw ∷ Enter names.text ∷ EnterLink N.Data Content.String ∷ []

abbrev pub text_opening : DestinationNames → List Op
text_opening names = Enter names.text ∷ EnterLink N.Data Content.String ∷ []

abbrev pub closing : DestinationNames → List Op
closing names = Enter names.marker ∷ Consume ∷ Exit names.marker ∷ Exit names.literal ∷ Exit names.whole ∷ []

abbrev pub leaving : DestinationNames → List Op
leaving names = Exit N.Data ∷ Exit names.text ∷ []

-- after the text between the brackets
abbrev pub ending : DestinationNames → List Op
ending names = leaving names ++ closing names

abbrev pub raw_ending : DestinationNames → List Op
raw_ending names = Exit N.Data ∷ Exit names.text ∷ Exit names.raw ∷ Exit names.whole ∷ []

abbrev pub start_at : Option ℕ → Tokenizer → Stepped
start_at None T = stepped Nok T
start_at (Some c) T =
    if c == byte "<" then stepped (Next DestinationEnclosedBefore) (done (opening (names_in T.tokenize_state)) T)
    else (if bars_value c then stepped Nok T
    else stepped (Retry DestinationRaw) (done (raw_opening (names_in T.tokenize_state)) T))

abbrev pub start_step : Tokenizer → Stepped
start_step T = start_at (current_of T) T

abbrev pub closed : Tokenizer → Stepped
closed T = stepped State.Ok (done (closing (names_in T.tokenize_state)) T)

abbrev pub entering : Tokenizer → Stepped
entering T = stepped (Retry DestinationEnclosed) (done (text_opening (names_in T.tokenize_state)) T)

abbrev pub enclosed_before_at : Option ℕ → Tokenizer → Stepped
enclosed_before_at None T = entering T
enclosed_before_at (Some c) T = if c == byte ">" then closed T else entering T

abbrev pub enclosed_before_step : Tokenizer → Stepped
enclosed_before_step T = enclosed_before_at (current_of T) T

abbrev pub enclosed_at : Option ℕ → Tokenizer → Stepped
enclosed_at None T = stepped Nok T
enclosed_at (Some c) T =
    if c == byte ">" then stepped (Retry DestinationEnclosedBefore) (done (leaving (names_in T.tokenize_state)) T)
    else (if c == byte "<" || c == byte "\n" then stepped Nok T
    else (if c == byte "\\" then stepped (Next DestinationEnclosedEscape) (done (Consume ∷ []) T)
    else stepped (Next DestinationEnclosed) (done (Consume ∷ []) T)))

abbrev pub enclosed_step : Tokenizer → Stepped
enclosed_step T = enclosed_at (current_of T) T

-- these may be escaped between the brackets
abbrev pub escapes_enclosed : ℕ → Bool
escapes_enclosed v = v == byte "<" || (v == byte ">" || (v == byte "\\" || false))

abbrev pub enclosed_escape_at : Option ℕ → Tokenizer → Stepped
enclosed_escape_at None T = stepped (Retry DestinationEnclosed) T
enclosed_escape_at (Some c) T =
    if escapes_enclosed c then stepped (Next DestinationEnclosed) (done (Consume ∷ []) T) else stepped (Retry DestinationEnclosed) T

abbrev pub enclosed_escape_step : Tokenizer → Stepped
enclosed_escape_step T = enclosed_escape_at (current_of T) T

abbrev pub refused : Tokenizer → Stepped
refused T = stepped Nok (scratched (with_size 0 T.tokenize_state) T)

abbrev pub finished : Tokenizer → Stepped
finished T = stepped State.Ok (scratched (with_size 0 T.tokenize_state) (done (raw_ending (names_in T.tokenize_state)) T))

-- past a code, with so many parentheses open
abbrev pub nested : ℕ → Tokenizer → Stepped
nested n T = stepped (Next DestinationRaw) (scratched (with_size n T.tokenize_state) (done (Consume ∷ []) T))

-- at an opening parenthesis
abbrev pub raw_opens : Tokenizer → Stepped
raw_opens T = if nat_lt T.tokenize_state.size T.tokenize_state.size_b then nested (T.tokenize_state.size + 1) T else refused T

-- at a code that is no parenthesis
abbrev pub raw_plain : ℕ → Tokenizer → Stepped
raw_plain c T =
    if control_value c || c == byte " " then refused T
    else (if c == byte "\\" then stepped (Next DestinationRawEscape) (done (Consume ∷ []) T)
    else stepped (Next DestinationRaw) (done (Consume ∷ []) T))

-- where the destination does not end
abbrev pub raw_on : ℕ → Tokenizer → Stepped
raw_on c T = if c == byte "(" then raw_opens T else (if c == byte ")" then nested (T.tokenize_state.size - 1) T else raw_plain c T)

abbrev pub raw_at : Option ℕ → Tokenizer → Stepped
raw_at None T = if T.tokenize_state.size == 0 then finished T else refused T
raw_at (Some c) T = if T.tokenize_state.size == 0 && stops_value c then finished T else raw_on c T

abbrev pub raw_step : Tokenizer → Stepped
raw_step T = raw_at (current_of T) T

-- these may be escaped elsewhere
abbrev pub escapes_raw : ℕ → Bool
escapes_raw v = v == byte "(" || (v == byte ")" || (v == byte "\\" || false))

abbrev pub raw_escape_at : Option ℕ → Tokenizer → Stepped
raw_escape_at None T = stepped (Retry DestinationRaw) T
raw_escape_at (Some c) T =
    if escapes_raw c then stepped (Next DestinationRaw) (done (Consume ∷ []) T) else stepped (Retry DestinationRaw) T

abbrev pub raw_escape_step : Tokenizer → Stepped
raw_escape_step T = raw_escape_at (current_of T) T

-- Over which codes they go on.

-- at these bytes alone, line endings aside, the text between the brackets does other than go on
abbrev pub enclosed_stops : List ℕ
enclosed_stops = codes "<>\\"

-- and elsewhere at these: a space, a parenthesis, a backslash and the controls
abbrev pub raw_stops : List ℕ
raw_stops = codes " ()\\" ++ controls

-- these of a state that passes code after code
abbrev pub stops_in : StateName → Option (List ℕ)
stops_in DestinationEnclosed = Some enclosed_stops
stops_in DestinationRaw = Some raw_stops
stops_in _ = None

-- When they may be called.

-- no parenthesis is open
abbrev pub DestinationStartReady : Tokenizer → Type 0
DestinationStartReady T = T.tokenize_state.size ≡ 0

abbrev pub EnclosedBeforeReady : Tokenizer → Type 0
EnclosedBeforeReady T = AreOpen T.tokenize_state.token_2 T.tokenize_state.token_1 T

-- these four are the innermost open events
abbrev pub FourOpen : Name → Name → Name → Name → Tokenizer → Type 0
FourOpen n m k l T = T.stack ≡ n ∷ m ∷ k ∷ l ∷ drop 4 T.stack

abbrev pub EnclosedReady : Tokenizer → Type 0
EnclosedReady T = FourOpen N.Data T.tokenize_state.token_5 T.tokenize_state.token_2 T.tokenize_state.token_1 T

abbrev pub RawReady : Tokenizer → Type 0
RawReady T = FourOpen N.Data T.tokenize_state.token_5 T.tokenize_state.token_4 T.tokenize_state.token_1 T

-- How runs end.

abbrev pub start_ends : Tokenizer → Bool → Tokenizer → Type 0
start_ends T ok U = EndsAs (destination T.tokenize_state.size_b (names_in T.tokenize_state)) None T.tokenize_state T ok U

-- some codes, and then these operations
abbrev pub text_then : List Op → Option (List Code × List Code) → Option (List Op)
text_then os None = None
text_then os (Some r) = Some (consumes r.0 ++ os)

-- between the brackets
abbrev pub bracketed : Bool → List Code → Option (List Code × List Code)
bracketed slash cs = escaped_from (is_value (byte ">")) (is_among (codes "<>\\")) (λ c. is_value (byte "<") c || is_line_ending c) slash cs

abbrev pub enclosed_plan : DestinationNames → Bool → Plan
enclosed_plan names slash cs = text_then (ending names) (bracketed slash cs)

-- after the opening bracket
abbrev pub before_plan : DestinationNames → Plan
before_plan names cs = if next_is (is_value (byte ">")) cs then Some (closing names) else preceded (text_opening names) (enclosed_plan names false cs)

abbrev pub raw_plan : DestinationNames → ℕ → Bool → ℕ → Plan
raw_plan names max slash depth cs = text_then (raw_ending names) (raw_from max slash depth cs)

abbrev pub enclosed_before_ends : Tokenizer → Bool → Tokenizer → Type 0
enclosed_before_ends T ok U = KeepsAs 2 (before_plan (names_in T.tokenize_state)) T ok U

abbrev pub enclosed_ends : Tokenizer → Bool → Tokenizer → Type 0
enclosed_ends T ok U = KeepsAs 4 (enclosed_plan (names_in T.tokenize_state) false) T ok U

abbrev pub enclosed_escape_ends : Tokenizer → Bool → Tokenizer → Type 0
enclosed_escape_ends T ok U = KeepsAs 4 (enclosed_plan (names_in T.tokenize_state) true) T ok U

abbrev pub raw_ends : Tokenizer → Bool → Tokenizer → Type 0
raw_ends T ok U =
    let s : TokenizeState = T.tokenize_state in
    DoesAs 4 (raw_plan (names_in s) s.size_b false s.size) (with_size 0 s) T ok U

abbrev pub raw_escape_ends : Tokenizer → Bool → Tokenizer → Type 0
raw_escape_ends T ok U =
    let s : TokenizeState = T.tokenize_state in
    DoesAs 4 (raw_plan (names_in s) s.size_b true s.size) (with_size 0 s) T ok U

-- The states.

-- at the closing bracket the text ends, and elsewhere it goes on
abbrev pub before_rank : Option ℕ → ℕ
before_rank None = 3
before_rank (Some c) = if c == byte ">" then 1 else 3

abbrev pub start_words : StateWords
start_words = record { ready = DestinationStartReady; step = start_step; ends = start_ends; rank = λ T. 4 }

abbrev pub enclosed_before_words : StateWords
enclosed_before_words =
    record { ready = EnclosedBeforeReady; step = enclosed_before_step; ends = enclosed_before_ends; rank = λ T. before_rank (current_of T) }

abbrev pub enclosed_words : StateWords
enclosed_words = record { ready = EnclosedReady; step = enclosed_step; ends = enclosed_ends; rank = λ T. 2 }

abbrev pub enclosed_escape_words : StateWords
enclosed_escape_words = record { ready = EnclosedReady; step = enclosed_escape_step; ends = enclosed_escape_ends; rank = λ T. 3 }

abbrev pub raw_words : StateWords
raw_words = record { ready = RawReady; step = raw_step; ends = raw_ends; rank = λ T. 1 }

abbrev pub raw_escape_words : StateWords
raw_escape_words = record { ready = RawReady; step = raw_escape_step; ends = raw_escape_ends; rank = λ T. 2 }

-- a part of what is said of these states, and of any other as it is given
abbrev pub said {ℓ} : {A : Type ℓ} → (StateWords → A) → (StateName → A) → StateName → A
said part other DestinationStart = part start_words
said part other DestinationEnclosedBefore = part enclosed_before_words
said part other DestinationEnclosed = part enclosed_words
said part other DestinationEnclosedEscape = part enclosed_escape_words
said part other DestinationRaw = part raw_words
said part other DestinationRawEscape = part raw_escape_words
said part other s = other s

-- all of it
abbrev pub states : (StateName → StateWords) → StateName → StateWords
states other s = said (λ (w : StateWords). w) other s
