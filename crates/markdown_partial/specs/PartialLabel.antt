-- What the states of a label do, and how runs from them end.
use Rattle.std.specs.Prelude.{◌≡◌, ℕ, ◌+◌, ◌≤◌, Bool, true, false, ◌&&◌, ◌||◌, not, nat_le, ◌==◌, if◌then◌else◌, codes, Option, Some, None, List, [], ◌∷◌, drop}
use Rattle.std.specs.List.{list_any}
use Rattle.markdown_content.specs.Codes.{Code}
use Rattle.markdown_engine.specs.Operations.{Op, Enter, Exit, Consume, LinkedBefore, attempted, done, current_of, scratched}
use Rattle.markdown_engine.specs.PastTree.{EndsAs}
use Rattle.markdown_engine.specs.StateRuns.{Stepped, stepped}
use Rattle.markdown_event.specs.declared.event.Name.TheVariants as N
use Rattle.markdown_event.specs.declared.state.State.{State}
use Rattle.markdown_event.specs.declared.state.State.TheVariants.{Next, Retry, Ok, Nok}
use Rattle.markdown_event.specs.declared.state.StateName.TheVariants.{SpaceOrTabEolStart, LabelAtBreak, LabelEolAfter, LabelInside, LabelEscape, LabelNok, LabelStart}
use Rattle.markdown_engine.specs.declared.tokenizer.TokenizeState.{TokenizeState}
use Rattle.markdown_engine.specs.declared.tokenizer.Tokenizer.{Tokenizer}
use Rattle.markdown_content.specs.Place.{point_of}
use Rattle.markdown_model.specs.CodeTests.{is_between, is_value, is_among, is_whitespace_code}
use Rattle.markdown_model.specs.Grammar.{escaped_from}
use Rattle.markdown_model.specs.Resource.{StringNames, counted, label}
use Rattle.markdown_plan.specs.Plan.{Plan, DoesAs}
use Rattle.markdown_plan.specs.ScratchFields.{AreOpen, with_size}
use Rattle.markdown_partial.specs.LinkedText.{names_in, rules_in, text_entered, ending, eol_asked_for, ends_open, TextReady, break_ops, inside_ops, ends_filled, answer}
use Rattle.markdown_engine.specs.StateWords.{StateWords}
use Rattle.markdown_partial.specs.PartialSpaceOrTabEol as PartialSpaceOrTabEol
use Rattle.markdown_event.specs.declared.state.StateName.{StateName}
use Rattle.std.specs.Str.{byte}

-- The scratch fields.

-- at rest
abbrev pub rested : TokenizeState → TokenizeState
rested s = record s { size = 0; seen = false; connect = false }

-- by CommonMark's rule characters count, and not codes
abbrev pub characters_in : Tokenizer → Bool
characters_in T = (rules_in T).labels_by_characters

-- the code at hand, of this value and no line ending, counts
abbrev pub counts_here : ℕ → Tokenizer → Bool
counts_here c T = not (characters_in T) || (not (is_between 128 191 c) && (point_of T.cursor).vs == 0)

-- one more, if it counts
abbrev pub counted_up : Bool → ℕ → ℕ
counted_up counts n = if counts then n + 1 else n

-- past a code of this value
abbrev pub sized : Bool → ℕ → TokenizeState → TokenizeState
sized counts c s = record s { size = counted_up counts s.size; seen = s.seen || not (c == byte " " || c == byte "\t") }

-- What the states do.

abbrev pub opening : StringNames → List Op
opening names = Enter names.whole ∷ Enter names.marker ∷ Consume ∷ Exit names.marker ∷ Enter names.text ∷ []

abbrev pub start_at : Option ℕ → Tokenizer → Stepped
start_at None T = stepped Nok T
start_at (Some c) T = if c == byte "[" then stepped (Next LabelAtBreak) (done (opening (names_in T.tokenize_state)) T) else stepped Nok T

abbrev pub start_step : Tokenizer → Stepped
start_step T = start_at (current_of T) T

abbrev pub closed : Tokenizer → Stepped
closed T = stepped Ok (scratched (rested T.tokenize_state) (done (ending (names_in T.tokenize_state)) T))

abbrev pub refused : Tokenizer → Stepped
refused T = stepped (Retry LabelNok) T

-- after this code
abbrev pub next_state : ℕ → State
next_state c = if c == byte "\\" then Next LabelEscape else Next LabelInside

abbrev pub passing : ℕ → Tokenizer → Stepped
passing c T = stepped (next_state c) (scratched (sized (counts_here c T) c T.tokenize_state) (done (Consume ∷ []) T))

-- no more counts in the label than may
abbrev pub is_short : Tokenizer → Bool
is_short T = nat_le T.tokenize_state.size 999

abbrev pub at_break_at : Option ℕ → Tokenizer → Stepped
at_break_at None T = refused T
at_break_at (Some c) T =
    if not (c == byte "[") && is_short T
    then (if c == byte "]" then (if T.tokenize_state.seen then closed T else refused T)
    else (if c == byte "\n" then stepped (Retry SpaceOrTabEolStart) (attempted false (Next LabelEolAfter) (Next LabelNok) (scratched (eol_asked_for T.tokenize_state) T))
    else stepped (Retry LabelInside) (text_entered T)))
    else refused T

abbrev pub at_break_step : Tokenizer → Stepped
at_break_step T = at_break_at (current_of T) T

-- past a line ending, which counts where this says so
abbrev pub ending_passed : Bool → TokenizeState → TokenizeState
ending_passed counts s = record s { size = counted_up counts s.size; connect = true }

abbrev pub eol_after_step : Tokenizer → Stepped
eol_after_step T = stepped (Retry LabelAtBreak) (scratched (ending_passed (characters_in T && is_short T) T.tokenize_state) T)

abbrev pub nok_step : Tokenizer → Stepped
nok_step T = stepped Nok (scratched (rested T.tokenize_state) T)

abbrev pub leaving : Tokenizer → Stepped
leaving T = stepped (Retry LabelAtBreak) (done (Exit N.Data ∷ []) T)

abbrev pub inside_at : Option ℕ → Tokenizer → Stepped
inside_at None T = leaving T
inside_at (Some c) T = if not (c == byte "\n" || (c == byte "[" || c == byte "]")) && is_short T then passing c T else leaving T

abbrev pub inside_step : Tokenizer → Stepped
inside_step T = inside_at (current_of T) T

-- these may be escaped
abbrev pub escapes : ℕ → Bool
escapes v = v == byte "[" || (v == byte "\\" || (v == byte "]" || false))

abbrev pub escape_at : Option ℕ → Tokenizer → Stepped
escape_at None T = stepped (Retry LabelInside) T
escape_at (Some c) T =
    if escapes c
    then stepped (Next LabelInside) (scratched (with_size (counted_up (counts_here c T) T.tokenize_state.size) T.tokenize_state) (done (Consume ∷ []) T))
    else stepped (Retry LabelInside) T

abbrev pub escape_step : Tokenizer → Stepped
escape_step T = escape_at (current_of T) T

-- When they may be called.

pub record LabelStartReady (T : Tokenizer) : Type 0 where
  pub text : TextReady T
  pub rest : rested T.tokenize_state ≡ T.tokenize_state

pub record BreakReady (T : Tokenizer) : Type 0 where
  pub text : TextReady T
  pub stand_open : AreOpen T.tokenize_state.token_3 T.tokenize_state.token_1 T
  pub small : T.tokenize_state.size ≤ 1001
  pub linked : T.tokenize_state.connect ≡ true → LinkedBefore T

pub record EolAfterReady (T : Tokenizer) : Type 0 where
  pub text : TextReady T
  pub stand_open : AreOpen T.tokenize_state.token_3 T.tokenize_state.token_1 T
  pub small : T.tokenize_state.size ≤ 999
  pub linked : LinkedBefore T

pub record LabelInsideReady (T : Tokenizer) : Type 0 where
  pub text : TextReady T
  pub stand_open : T.stack ≡ N.Data ∷ T.tokenize_state.token_3 ∷ T.tokenize_state.token_1 ∷ drop 3 T.stack
  pub small : T.tokenize_state.size ≤ 1001
  pub connect : T.tokenize_state.connect ≡ true
  pub linked : ends_open T.events ≡ true

-- a backslash is passed, which is no whitespace
pub record EscapeReady (T : Tokenizer) : Type 0 where
  pub inside : LabelInsideReady T
  pub fits : T.tokenize_state.size ≤ 1000
  pub seen : T.tokenize_state.seen ≡ true

-- How runs end.

abbrev pub start_ends : Tokenizer → Bool → Tokenizer → Type 0
start_ends T ok U = EndsAs (label (characters_in T) (names_in T.tokenize_state)) None T.tokenize_state T ok U

-- the text from here on
abbrev pub text_from : Bool → List Code → Option (List Code × List Code)
text_from slash cs = escaped_from (is_value (byte "]")) (is_among (codes "[\\]")) (is_value (byte "[")) slash cs

-- the rest of a label, before which so many count and one code is no whitespace, if `seen` says so; `characters` says what counts
abbrev pub fits : Bool → ℕ → Bool → List Code → Bool
fits characters size seen text =
    (seen || list_any (λ c. not (is_whitespace_code c)) text) && (nat_le (size + counted characters false text) 999 && ends_filled true text)

-- in a stretch; `slash` says that a backslash stands before
abbrev pub inside_plan : Bool → StringNames → ℕ → Bool → Bool → Plan
inside_plan characters names size seen slash cs = answer (fits characters size seen) inside_ops (ending names) (text_from slash cs)

-- between two stretches
abbrev pub break_plan : Bool → StringNames → ℕ → Bool → Bool → Plan
break_plan characters names size seen connect cs = answer (fits characters size seen) (break_ops connect) (ending names) (text_from false cs)

abbrev pub at_break_ends : Tokenizer → Bool → Tokenizer → Type 0
at_break_ends T ok U =
    let s : TokenizeState = T.tokenize_state in
    DoesAs 2 (break_plan (characters_in T) (names_in s) s.size s.seen s.connect) (rested s) T ok U

abbrev pub eol_after_ends : Tokenizer → Bool → Tokenizer → Type 0
eol_after_ends T ok U =
    let s : TokenizeState = T.tokenize_state in
    DoesAs 2 (break_plan (characters_in T) (names_in s) (counted_up (characters_in T) s.size) s.seen true) (rested s) T ok U

abbrev pub nok_ends : Tokenizer → Bool → Tokenizer → Type 0
nok_ends T ok U = (ok ≡ false) × (U ≡ scratched (rested T.tokenize_state) T)

abbrev pub inside_ends : Tokenizer → Bool → Tokenizer → Type 0
inside_ends T ok U =
    let s : TokenizeState = T.tokenize_state in
    DoesAs 3 (inside_plan (characters_in T) (names_in s) s.size s.seen false) (rested s) T ok U

abbrev pub escape_ends : Tokenizer → Bool → Tokenizer → Type 0
escape_ends T ok U =
    let s : TokenizeState = T.tokenize_state in
    DoesAs 3 (inside_plan (characters_in T) (names_in s) s.size s.seen true) (rested s) T ok U

-- The states.

-- before the text goes on, and behind it
abbrev pub break_rank : Option ℕ → Tokenizer → ℕ
break_rank None T = 9
break_rank (Some c) T = if not (c == byte "\n" || (c == byte "[" || c == byte "]")) && is_short T then 11 else 9

abbrev pub start_words : StateWords
start_words = record { ready = LabelStartReady; step = start_step; ends = start_ends; rank = λ T. 11 }

abbrev pub at_break_words : StateWords
at_break_words = record { ready = BreakReady; step = at_break_step; ends = at_break_ends; rank = λ T. break_rank (current_of T) T }

abbrev pub eol_after_words : StateWords
eol_after_words = record { ready = EolAfterReady; step = eol_after_step; ends = eol_after_ends; rank = λ T. 12 }

abbrev pub inside_words : StateWords
inside_words = record { ready = LabelInsideReady; step = inside_step; ends = inside_ends; rank = λ T. 10 }

abbrev pub escape_words : StateWords
escape_words = record { ready = EscapeReady; step = escape_step; ends = escape_ends; rank = λ T. 11 }

abbrev pub nok_words : StateWords
nok_words = record { ready = λ T. Unit {0}; step = nok_step; ends = nok_ends; rank = λ T. 1 }

-- a part of what is said of these states, and of any other as it is given
abbrev pub said {ℓ} : {A : Type ℓ} → (StateWords → A) → (StateName → A) → StateName → A
said part other LabelStart = part start_words
said part other LabelAtBreak = part at_break_words
said part other LabelEolAfter = part eol_after_words
said part other LabelInside = part inside_words
said part other LabelEscape = part escape_words
said part other LabelNok = part nok_words
said part other s = other s

-- all of it
abbrev pub states : (StateName → StateWords) → StateName → StateWords
states other s = said (λ (w : StateWords). w) other s

-- the states of others that they call, and any other as it is given
abbrev pub called : (StateName → StateWords) → StateName → StateWords
called other SpaceOrTabEolStart = PartialSpaceOrTabEol.start_words
called other s = other s

abbrev pub states_and_called : (StateName → StateWords) → StateName → StateWords
states_and_called other s = states (called other) s
