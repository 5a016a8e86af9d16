-- What the states of a title do, and how runs from them end.
use Rattle.std.specs.Prelude.{◌≡◌, ℕ, Bool, true, false, ◌&&◌, ◌||◌, ◌==◌, if◌then◌else◌, codes, Option, Some, None, List, [], ◌∷◌, drop}
use Rattle.markdown_content.specs.Codes.{Code}
use Rattle.markdown_engine.specs.Operations.{Op, Enter, Exit, Consume, IsOpen, LinkedBefore, ahead, attempted, done, current_of, scratched}
use Rattle.markdown_engine.specs.PastTree.{EndsAs}
use Rattle.markdown_engine.specs.StateRuns.{Stepped, stepped}
use Rattle.markdown_event.specs.declared.event.Name.TheVariants as N
use Rattle.markdown_event.specs.declared.state.State.{State}
use Rattle.markdown_event.specs.declared.state.State.TheVariants.{Next, Retry, Ok, Nok}
use Rattle.markdown_event.specs.declared.state.StateName.TheVariants.{SpaceOrTabEolStart, TitleBegin, TitleAtBreak, TitleAfterEol, TitleInside, TitleEscape, TitleNok, TitleStart}
use Rattle.markdown_engine.specs.declared.tokenizer.TokenizeState.{TokenizeState}
use Rattle.markdown_engine.specs.declared.tokenizer.Tokenizer.{Tokenizer}
use Rattle.markdown_model.specs.CodeTests.{is_value, next_is}
use Rattle.markdown_model.specs.Grammar.{escaped_from}
use Rattle.markdown_model.specs.Resource.{StringNames, title, escaped_between, is_bare_opener}
use Rattle.markdown_plan.specs.Plan.{Plan, preceded, DoesAs}
use Rattle.markdown_plan.specs.ScratchFields.{AreOpen}
use Rattle.markdown_partial.specs.LinkedText.{names_in, rules_in, joined, text_entered, closing, ending, eol_asked_for, ends_open, TextReady, break_ops, inside_ops, ends_filled, answer}
use Rattle.markdown_engine.specs.StateWords.{StateWords}
use Rattle.markdown_partial.specs.PartialSpaceOrTabEol as PartialSpaceOrTabEol
use Rattle.markdown_event.specs.declared.state.StateName.{StateName}
use Rattle.std.specs.Str.{byte}

-- The scratch fields.

-- for a title that ends with this marker
abbrev pub begun : ℕ → TokenizeState → TokenizeState
begun closer s = record s { marker = closer }

-- at rest
abbrev pub rested : TokenizeState → TokenizeState
rested s = record s { marker = 0; connect = false }

-- by CommonMark's rule, and between parentheses, the opening one has to be escaped too
abbrev pub both_in : Tokenizer → Bool
both_in T = T.tokenize_state.marker == byte ")" && (rules_in T).escaped_parentheses

-- a code of this value may not stand there bare
abbrev pub is_refused : ℕ → Tokenizer → Bool
is_refused c T = both_in T && c == byte "("

-- What the states do.

abbrev pub opening : StringNames → List Op
opening names = Enter names.whole ∷ Enter names.marker ∷ Consume ∷ Exit names.marker ∷ []

abbrev pub opened : ℕ → Tokenizer → Stepped
opened closer T = stepped (Next TitleBegin) (scratched (begun closer T.tokenize_state) (done (opening (names_in T.tokenize_state)) T))

abbrev pub start_at : Option ℕ → Tokenizer → Stepped
start_at None T = stepped Nok T
start_at (Some c) T =
    if c == byte "\"" then opened (byte "\"") T
    else (if c == byte "'" then opened (byte "'") T
    else (if c == byte "(" then opened (byte ")") T
    else stepped Nok T))

abbrev pub start_step : Tokenizer → Stepped
start_step T = start_at (current_of T) T

abbrev pub closed : Tokenizer → Stepped
closed T = stepped Ok (scratched (rested T.tokenize_state) (done (closing (names_in T.tokenize_state)) T))

abbrev pub beginning : Tokenizer → Stepped
beginning T = stepped (Retry TitleAtBreak) (done (Enter T.tokenize_state.token_3 ∷ []) T)

abbrev pub begin_at : Option ℕ → Tokenizer → Stepped
begin_at None T = beginning T
begin_at (Some c) T = if c == T.tokenize_state.marker then closed T else beginning T

abbrev pub begin_step : Tokenizer → Stepped
begin_step T = begin_at (current_of T) T

-- after this code
abbrev pub next_state : ℕ → State
next_state c = if c == byte "\\" then Next TitleEscape else Next TitleInside

abbrev pub passing : ℕ → Tokenizer → Stepped
passing c T = stepped (next_state c) (done (Consume ∷ []) T)

abbrev pub at_break_at : Option ℕ → Tokenizer → Stepped
at_break_at None T = stepped (Retry TitleNok) T
at_break_at (Some c) T =
    if c == T.tokenize_state.marker then stepped (Retry TitleBegin) (done (Exit T.tokenize_state.token_3 ∷ []) T)
    else (if c == byte "\n" then stepped (Retry SpaceOrTabEolStart) (attempted false (Next TitleAfterEol) (Next TitleNok) (scratched (eol_asked_for T.tokenize_state) T))
    else (if is_refused c T then stepped (Retry TitleNok) T
    else stepped (Retry TitleInside) (text_entered T)))

abbrev pub at_break_step : Tokenizer → Stepped
at_break_step T = at_break_at (current_of T) T

abbrev pub after_eol_step : Tokenizer → Stepped
after_eol_step T = stepped (Retry TitleAtBreak) (scratched (joined T.tokenize_state) T)

abbrev pub nok_step : Tokenizer → Stepped
nok_step T = stepped Nok (scratched (rested T.tokenize_state) T)

abbrev pub leaving : Tokenizer → Stepped
leaving T = stepped (Retry TitleAtBreak) (done (Exit N.Data ∷ []) T)

abbrev pub inside_at : Option ℕ → Tokenizer → Stepped
inside_at None T = leaving T
inside_at (Some c) T = if c == byte "\n" || (c == T.tokenize_state.marker || is_refused c T) then leaving T else passing c T

abbrev pub inside_step : Tokenizer → Stepped
inside_step T = inside_at (current_of T) T

-- the marker is one that ends titles
abbrev pub is_closer : ℕ → Bool
is_closer m = m == byte "\"" || (m == byte "'" || m == byte ")")

-- these may be escaped
abbrev pub escapes : ℕ → Bool
escapes v = v == byte "\\" || (v == byte "(" || is_closer v)

abbrev pub escape_at : Option ℕ → Tokenizer → Stepped
escape_at None T = stepped (Retry TitleInside) T
escape_at (Some c) T =
    if escapes c then stepped (Next TitleInside) (done (Consume ∷ []) T) else stepped (Retry TitleInside) T

abbrev pub escape_step : Tokenizer → Stepped
escape_step T = escape_at (current_of T) T

-- the bytes at which alone the text does other than go on, line endings aside: the marker, a backslash, and in parentheses the opening one
abbrev pub inside_stops : TokenizeState → Option (List ℕ)
inside_stops s =
    if s.marker == byte "\"" then Some (codes "\"\\")
    else (if s.marker == byte "'" then Some (codes "'\\")
    else (if s.marker == byte ")" then Some (codes ")\\(")
    else None))

-- When they may be called.

pub record TitleStartReady (T : Tokenizer) : Type 0 where
  pub text : TextReady T
  pub rest : rested T.tokenize_state ≡ T.tokenize_state

-- at a closing marker, or where no stretch of the text comes before
pub record BeginReady (T : Tokenizer) : Type 0 where
  pub text : TextReady T
  pub closer : is_closer T.tokenize_state.marker ≡ true
  pub stand_open : IsOpen T.tokenize_state.token_1 T
  pub first : next_is (is_value T.tokenize_state.marker) (ahead T) ≡ false → T.tokenize_state.connect ≡ false

pub record TitleBreakReady (T : Tokenizer) : Type 0 where
  pub text : TextReady T
  pub closer : is_closer T.tokenize_state.marker ≡ true
  pub stand_open : AreOpen T.tokenize_state.token_3 T.tokenize_state.token_1 T
  pub linked : T.tokenize_state.connect ≡ true → LinkedBefore T

pub record AfterEolReady (T : Tokenizer) : Type 0 where
  pub text : TextReady T
  pub closer : is_closer T.tokenize_state.marker ≡ true
  pub stand_open : AreOpen T.tokenize_state.token_3 T.tokenize_state.token_1 T
  pub linked : LinkedBefore T

pub record TitleInsideReady (T : Tokenizer) : Type 0 where
  pub text : TextReady T
  pub closer : is_closer T.tokenize_state.marker ≡ true
  pub stand_open : T.stack ≡ N.Data ∷ T.tokenize_state.token_3 ∷ T.tokenize_state.token_1 ∷ drop 3 T.stack
  pub connect : T.tokenize_state.connect ≡ true
  pub linked : ends_open T.events ≡ true

-- How runs end.

abbrev pub start_ends : Tokenizer → Bool → Tokenizer → Type 0
start_ends T ok U = EndsAs (title (rules_in T).escaped_parentheses (names_in T.tokenize_state)) None T.tokenize_state T ok U

-- a title between these markers, of these names; `both` says that both have to be escaped
module _ (both : Bool) (opener marker : ℕ) (names : StringNames) where
  -- the text from here on
  abbrev pub text_from : Bool → List Code → Option (List Code × List Code)
  text_from slash cs = escaped_from (is_value marker) (escaped_between both opener marker) (is_bare_opener both opener) slash cs

  -- in a stretch; `slash` says that a backslash stands before
  abbrev pub inside_plan : Bool → Plan
  inside_plan slash cs = answer (ends_filled true) inside_ops (ending names) (text_from slash cs)

  -- between two stretches
  abbrev pub break_plan : Bool → Plan
  break_plan connect cs = answer (ends_filled true) (break_ops connect) (ending names) (text_from false cs)

  -- after the opening marker
  abbrev pub begin_plan : Plan
  begin_plan cs = if next_is (is_value marker) cs then Some (closing names) else preceded (Enter names.text ∷ []) (break_plan false cs)

abbrev pub begin_ends : Tokenizer → Bool → Tokenizer → Type 0
begin_ends T ok U =
    let s : TokenizeState = T.tokenize_state in
    DoesAs 1 (begin_plan (both_in T) (byte "(") s.marker (names_in s)) (rested s) T ok U

abbrev pub at_break_ends : Tokenizer → Bool → Tokenizer → Type 0
at_break_ends T ok U =
    let s : TokenizeState = T.tokenize_state in
    DoesAs 2 (break_plan (both_in T) (byte "(") s.marker (names_in s) s.connect) (rested s) T ok U

abbrev pub after_eol_ends : Tokenizer → Bool → Tokenizer → Type 0
after_eol_ends T ok U =
    let s : TokenizeState = T.tokenize_state in
    DoesAs 2 (break_plan (both_in T) (byte "(") s.marker (names_in s) true) (rested s) T ok U

abbrev pub nok_ends : Tokenizer → Bool → Tokenizer → Type 0
nok_ends T ok U = (ok ≡ false) × (U ≡ scratched (rested T.tokenize_state) T)

abbrev pub inside_ends : Tokenizer → Bool → Tokenizer → Type 0
inside_ends T ok U =
    let s : TokenizeState = T.tokenize_state in
    DoesAs 3 (inside_plan (both_in T) (byte "(") s.marker (names_in s) false) (rested s) T ok U

abbrev pub escape_ends : Tokenizer → Bool → Tokenizer → Type 0
escape_ends T ok U =
    let s : TokenizeState = T.tokenize_state in
    DoesAs 3 (inside_plan (both_in T) (byte "(") s.marker (names_in s) true) (rested s) T ok U

-- The states.

-- at the closing marker the text ends, and elsewhere it goes on
abbrev pub begin_rank : Option ℕ → Tokenizer → ℕ
begin_rank None T = 13
begin_rank (Some c) T = if c == T.tokenize_state.marker then 9 else 13

abbrev pub break_rank : Option ℕ → Tokenizer → ℕ
break_rank None T = 10
break_rank (Some c) T = if c == byte "\n" || (c == T.tokenize_state.marker || is_refused c T) then 10 else 12

abbrev pub start_words : StateWords
start_words = record { ready = TitleStartReady; step = start_step; ends = start_ends; rank = λ T. 11 }

abbrev pub begin_words : StateWords
begin_words = record { ready = BeginReady; step = begin_step; ends = begin_ends; rank = λ T. begin_rank (current_of T) T }

abbrev pub at_break_words : StateWords
at_break_words = record { ready = TitleBreakReady; step = at_break_step; ends = at_break_ends; rank = λ T. break_rank (current_of T) T }

abbrev pub after_eol_words : StateWords
after_eol_words = record { ready = AfterEolReady; step = after_eol_step; ends = after_eol_ends; rank = λ T. 13 }

abbrev pub inside_words : StateWords
inside_words = record { ready = TitleInsideReady; step = inside_step; ends = inside_ends; rank = λ T. 11 }

abbrev pub escape_words : StateWords
escape_words = record { ready = TitleInsideReady; step = escape_step; ends = escape_ends; rank = λ T. 12 }

abbrev pub nok_words : StateWords
nok_words = record { ready = λ T. Unit {0}; step = nok_step; ends = nok_ends; rank = λ T. 1 }

-- a part of what is said of these states, and of any other as it is given
abbrev pub said {ℓ} : {A : Type ℓ} → (StateWords → A) → (StateName → A) → StateName → A
said part other TitleStart = part start_words
said part other TitleBegin = part begin_words
said part other TitleAtBreak = part at_break_words
said part other TitleAfterEol = part after_eol_words
said part other TitleInside = part inside_words
said part other TitleEscape = part escape_words
said part other TitleNok = part nok_words
said part other s = other s

-- all of it
abbrev pub states : (StateName → StateWords) → StateName → StateWords
states other s = said (λ (w : StateWords). w) other s

-- the states of others that they call, and any other as it is given
abbrev pub called : (StateName → StateWords) → StateName → StateWords
called other SpaceOrTabEolStart = PartialSpaceOrTabEol.start_words
called other s = other s

abbrev pub states_and_called : (StateName → StateWords) → StateName → StateWords
states_and_called other s = states (called other) s
