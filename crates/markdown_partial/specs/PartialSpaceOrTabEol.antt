-- What the states of whitespace with a line ending do, and how runs from them end.
use Rattle.std.specs.Prelude.{◌≡◌, ℕ, ◌≤◌, Bool, true, false, ◌==◌, not, if◌then◌else◌, [], ◌∷◌, Option, Some, None, is_some}
use Rattle.markdown_content.specs.Codes.{is_blank, is_line_ending, line_feed}
use Rattle.markdown_engine.specs.Operations.{consumed, exited, attempted, current_of, scratched, ahead, LinkedBefore}
use Rattle.markdown_engine.specs.PastTree.{EndsAs, TreeReading, entered_leaf, link_before, behind}
use Rattle.markdown_engine.specs.StateRuns.{Stepped, stepped}
use Rattle.markdown_content.specs.Tree.{empty}
use Rattle.markdown_engine.specs.Weights.{codes_left}
use Rattle.markdown_model.specs.Grammar.{span}
use Rattle.markdown_model.specs.TextLines.{linked_leaf}
use Rattle.markdown_model.specs.Whitespace.{space_or_tab_eol, begins_filled_line}
use Rattle.markdown_partial.specs.PartialSpaceOrTab as PartialSpaceOrTab
use Rattle.markdown_partial.specs.PartialSpaceOrTab.{most, asked, rested, ended}
use Rattle.markdown_event.specs.declared.event.Content.{Content}
use Rattle.markdown_event.specs.declared.event.Name.TheVariants as N
use Rattle.markdown_event.specs.declared.state.State.TheVariants.{Next, Retry, Nok}
use Rattle.markdown_event.specs.declared.state.StateName.TheVariants.{SpaceOrTabStart, SpaceOrTabEolAfterFirst, SpaceOrTabEolAtEol, SpaceOrTabEolAfterEol, SpaceOrTabEolAfterMore, SpaceOrTabEolStart}
use Rattle.markdown_engine.specs.declared.tokenizer.TokenizeState.{TokenizeState}
use Rattle.markdown_engine.specs.declared.tokenizer.Tokenizer.{Tokenizer}
use Rattle.markdown_engine.specs.StateWords.{StateWords}
use Rattle.markdown_event.specs.declared.state.StateName.{StateName}
use Rattle.markdown_plan.specs.ByteTests.{at_blank}

-- with whitespace with a line ending asked for
abbrev pub eol_asked : Bool → Option Content → TokenizeState → TokenizeState
eol_asked connect content s = record s { space_or_tab_eol_connect = connect; space_or_tab_eol_content = content }

-- with its blank codes asked for, one or more
abbrev pub space_asked : TokenizeState → TokenizeState
space_asked s = asked 1 most N.SpaceOrTab s.space_or_tab_eol_connect s.space_or_tab_eol_content s

-- with its fields at rest
abbrev pub eol_rested : TokenizeState → TokenizeState
eol_rested s = record s { space_or_tab_eol_content = None; space_or_tab_eol_connect = false; space_or_tab_eol_ok = false }

-- with blank codes passed, which are enough by themselves
abbrev pub held : TokenizeState → TokenizeState
held s = record s { space_or_tab_eol_ok = true }

-- after a linked leaf the next one goes on with its chain
abbrev pub joins : Option Content → Bool → Bool
joins None connect = connect
joins (Some content) connect = true

abbrev pub joined : TokenizeState → TokenizeState
joined s = record s { space_or_tab_eol_connect = joins s.space_or_tab_eol_content s.space_or_tab_eol_connect }

abbrev pub start_at : TokenizeState → Option ℕ → Tokenizer → Stepped
start_at s o T =
    if at_blank o
    then stepped (Retry SpaceOrTabStart) (attempted false (Next SpaceOrTabEolAfterFirst) (Next SpaceOrTabEolAtEol) (scratched (space_asked s) T))
    else stepped (Retry SpaceOrTabEolAtEol) T

abbrev pub start_step : Tokenizer → Stepped
start_step T = start_at T.tokenize_state (current_of T) T

abbrev pub after_first_step : Tokenizer → Stepped
after_first_step T = stepped (Retry SpaceOrTabEolAtEol) (scratched (held T.tokenize_state) T)

-- a line ending is at hand
abbrev pub at_line_ending : Option ℕ → Bool
at_line_ending None = false
at_line_ending (Some v) = v == line_feed

abbrev pub ending_entered : TokenizeState → Tokenizer → Tokenizer
ending_entered s T = entered_leaf N.LineEnding s.space_or_tab_eol_content s.space_or_tab_eol_connect T

abbrev pub at_eol_at : TokenizeState → Option ℕ → Tokenizer → Stepped
at_eol_at s o T =
    if at_line_ending o
    then stepped (Next SpaceOrTabEolAfterEol) (scratched (joined s) (exited N.LineEnding (consumed (ending_entered s T))))
    else stepped (ended s.space_or_tab_eol_ok) (scratched (eol_rested s) T)

abbrev pub at_eol_step : Tokenizer → Stepped
at_eol_step T = at_eol_at T.tokenize_state (current_of T) T

abbrev pub after_eol_at : TokenizeState → Option ℕ → Tokenizer → Stepped
after_eol_at s o T =
    if at_blank o
    then stepped (Retry SpaceOrTabStart) (attempted false (Next SpaceOrTabEolAfterMore) Nok (scratched (space_asked s) T))
    else stepped (Retry SpaceOrTabEolAfterMore) T

abbrev pub after_eol_step : Tokenizer → Stepped
after_eol_step T = after_eol_at T.tokenize_state (current_of T) T

-- the line at hand has a code to come
abbrev pub goes_on_line : Option ℕ → Bool
goes_on_line None = false
goes_on_line (Some v) = not (v == line_feed)

abbrev pub after_more_step : Tokenizer → Stepped
after_more_step T = stepped (ended (goes_on_line (current_of T))) (scratched (eol_rested T.tokenize_state) T)

-- The conditions.

-- all fields of whitespace are at rest
pub record WhitespaceAtRest (s : TokenizeState) : Type 0 where
  pub space : rested s ≡ s
  pub eol : eol_rested s ≡ s

-- Fewer codes are left than a `usize` counts; the fields of whitespace on one line are at rest; and whitespace that is to go on with a chain
-- has a content, and a linked event stands just before.
pub record EolReady (T : Tokenizer) : Type 0 where
  pub short : codes_left T ≤ most
  pub resting : rested T.tokenize_state ≡ T.tokenize_state
  pub linked : T.tokenize_state.space_or_tab_eol_connect ≡ true → LinkedBefore T
  pub contents : T.tokenize_state.space_or_tab_eol_connect ≡ true → is_some T.tokenize_state.space_or_tab_eol_content ≡ true

-- besides, where it starts no blank codes are passed, and none stand before the line ending of a linked text
pub record SpaceOrTabEolStartReady (T : Tokenizer) : Type 0 where
  pub begins : EolReady T
  pub none_yet : T.tokenize_state.space_or_tab_eol_ok ≡ false
  pub plain : at_blank (current_of T) ≡ true → T.tokenize_state.space_or_tab_eol_content ≡ None

pub record AfterFirstReady (T : Tokenizer) : Type 0 where
  pub goes_on : EolReady T
  pub plain : T.tokenize_state.space_or_tab_eol_content ≡ None

-- The readings from the states in the middle.

-- the blank codes of a line that has another code
abbrev pub indent : Option Content → TreeReading
indent link cs =
    let s = span is_blank cs in
    if begins_filled_line s.1 then Some (linked_leaf N.SpaceOrTab link s.0, s.1) else None

-- the line ending and the blank codes of the next line; or nothing, where blank codes before are enough
abbrev pub at_ending : Option Content → Bool → TreeReading
at_ending link enough [] = if enough then Some (empty, []) else None
at_ending link enough (c ∷ cs) =
    if is_line_ending c
    then behind (linked_leaf N.LineEnding link (c ∷ [])) (indent link cs)
    else (if enough then Some (empty, c ∷ cs) else None)

-- How runs end.

abbrev pub start_ends : Tokenizer → Bool → Tokenizer → Type 0
start_ends T ok U =
    let s = T.tokenize_state in
    EndsAs (space_or_tab_eol s.space_or_tab_eol_content) (link_before s.space_or_tab_eol_connect T) (eol_rested s) T ok U

abbrev pub after_first_ends : Tokenizer → Bool → Tokenizer → Type 0
after_first_ends T ok U =
    let s = T.tokenize_state in
    EndsAs (at_ending s.space_or_tab_eol_content true) (link_before s.space_or_tab_eol_connect T) (eol_rested s) T ok U

abbrev pub at_eol_ends : Tokenizer → Bool → Tokenizer → Type 0
at_eol_ends T ok U =
    let s = T.tokenize_state in
    EndsAs (at_ending s.space_or_tab_eol_content s.space_or_tab_eol_ok) (link_before s.space_or_tab_eol_connect T) (eol_rested s) T ok U

abbrev pub after_eol_ends : Tokenizer → Bool → Tokenizer → Type 0
after_eol_ends T ok U =
    let s = T.tokenize_state in
    EndsAs (indent s.space_or_tab_eol_content) (link_before s.space_or_tab_eol_connect T) (eol_rested s) T ok U

abbrev pub after_more_ends : Tokenizer → Bool → Tokenizer → Type 0
after_more_ends T ok U = (ok ≡ begins_filled_line (ahead T)) × (U ≡ scratched (eol_rested T.tokenize_state) T)

-- The states.

abbrev pub start_words : StateWords
start_words = record { ready = SpaceOrTabEolStartReady; step = start_step; ends = start_ends; rank = λ T. 8 }

abbrev pub after_first_words : StateWords
after_first_words = record { ready = AfterFirstReady; step = after_first_step; ends = after_first_ends; rank = λ T. 7 }

abbrev pub at_eol_words : StateWords
at_eol_words = record { ready = EolReady; step = at_eol_step; ends = at_eol_ends; rank = λ T. 6 }

abbrev pub after_eol_words : StateWords
after_eol_words = record { ready = EolReady; step = after_eol_step; ends = after_eol_ends; rank = λ T. 5 }

abbrev pub after_more_words : StateWords
after_more_words = record { ready = λ T. Unit {0}; step = after_more_step; ends = after_more_ends; rank = λ T. 4 }

-- a part of what is said of these states, and of any other as it is given
abbrev pub said {ℓ} : {A : Type ℓ} → (StateWords → A) → (StateName → A) → StateName → A
said part other SpaceOrTabEolStart = part start_words
said part other SpaceOrTabEolAfterFirst = part after_first_words
said part other SpaceOrTabEolAtEol = part at_eol_words
said part other SpaceOrTabEolAfterEol = part after_eol_words
said part other SpaceOrTabEolAfterMore = part after_more_words
said part other s = other s

-- all of it
abbrev pub states : (StateName → StateWords) → StateName → StateWords
states other s = said (λ (w : StateWords). w) other s

-- the states of others that they call, and any other as it is given
abbrev pub called : (StateName → StateWords) → StateName → StateWords
called other SpaceOrTabStart = PartialSpaceOrTab.start_words
called other s = other s

abbrev pub states_and_called : (StateName → StateWords) → StateName → StateWords
states_and_called other s = states (called other) s
