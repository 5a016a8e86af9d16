-- What the states of whitespace on one line do, and how runs from them end.
use Rattle.std.specs.Prelude.{◌≡◌, ℕ, ◌+◌, ◌-◌, Bool, true, false, ◌&&◌, nat_lt, nat_le, if◌then◌else◌, List, length, take, Option, None}
use Rattle.markdown_content.specs.Codes.{Code, is_blank}
use Rattle.markdown_engine.specs.Operations.{consumed, exited, scratched, current_of, ahead, LinkedBefore, IsOpen}
use Rattle.markdown_engine.specs.PastTree.{EndsAs, entered_leaf, link_before, passed}
use Rattle.markdown_engine.specs.StateRuns.{Stepped, stepped}
use Rattle.markdown_model.specs.Grammar.{span}
use Rattle.markdown_model.specs.Whitespace.{space_or_tab}
use Rattle.markdown_event.specs.declared.event.Content.{Content}
use Rattle.markdown_event.specs.declared.event.Name.{Name}
use Rattle.markdown_event.specs.declared.event.Name.TheVariants as N
use Rattle.markdown_event.specs.declared.state.State.{State}
use Rattle.markdown_event.specs.declared.state.State.TheVariants.{Next, Retry, Ok, Nok}
use Rattle.markdown_event.specs.declared.state.StateName.TheVariants.{SpaceOrTabInside, SpaceOrTabAfter, SpaceOrTabStart}
use Rattle.markdown_engine.specs.declared.tokenizer.TokenizeState.{TokenizeState}
use Rattle.markdown_engine.specs.declared.tokenizer.Tokenizer.{Tokenizer}
use Rattle.markdown_engine.specs.StateWords.{StateWords}
use Rattle.markdown_event.specs.declared.state.StateName.{StateName}
use Rattle.markdown_plan.specs.ByteTests.{at_blank}

-- no bound on the number of codes: the greatest `usize`
abbrev pub most : ℕ
most = 18446744073709551615

-- with whitespace asked for
abbrev pub asked : ℕ → ℕ → Name → Bool → Option Content → TokenizeState → TokenizeState
asked min max kind connect content s =
    record s { space_or_tab_connect = connect; space_or_tab_content = content; space_or_tab_min = min; space_or_tab_max = max; space_or_tab_token = kind }

-- with the fields of whitespace at rest
abbrev pub rested : TokenizeState → TokenizeState
rested s =
    record s { space_or_tab_connect = false; space_or_tab_content = None; space_or_tab_min = 0; space_or_tab_max = 0; space_or_tab_size = 0; space_or_tab_token = N.SpaceOrTab }

abbrev pub sized : ℕ → TokenizeState → TokenizeState
sized n s = record s { space_or_tab_size = n }

-- what follows is linked to it
abbrev pub connected : TokenizeState → TokenizeState
connected s = record s { space_or_tab_connect = true }

abbrev pub start_at : TokenizeState → Option ℕ → Tokenizer → Stepped
start_at s o T =
    if at_blank o && nat_lt 0 s.space_or_tab_max
    then stepped (Retry SpaceOrTabInside) (scratched (connected s) (entered_leaf s.space_or_tab_token s.space_or_tab_content s.space_or_tab_connect T))
    else stepped (Retry SpaceOrTabAfter) T

abbrev pub start_step : Tokenizer → Stepped
start_step T = start_at T.tokenize_state (current_of T) T

abbrev pub inside_at : TokenizeState → Option ℕ → Tokenizer → Stepped
inside_at s o T =
    if at_blank o && nat_lt s.space_or_tab_size s.space_or_tab_max
    then stepped (Next SpaceOrTabInside) (scratched (sized (s.space_or_tab_size + 1) s) (consumed T))
    else stepped (Retry SpaceOrTabAfter) (exited s.space_or_tab_token T)

abbrev pub inside_step : Tokenizer → Stepped
inside_step T = inside_at T.tokenize_state (current_of T) T

abbrev pub ended : Bool → State
ended b = if b then Ok else Nok

abbrev pub after_step : Tokenizer → Stepped
after_step T =
    stepped (ended (nat_le T.tokenize_state.space_or_tab_min T.tokenize_state.space_or_tab_size)) (scratched (rested T.tokenize_state) T)

-- when whitespace may start: no code of it is passed, and where it is to go on with a chain a linked event stands just before
pub record SpaceOrTabStartReady (T : Tokenizer) : Type 0 where
  pub none_yet : T.tokenize_state.space_or_tab_size ≡ 0
  pub linked : T.tokenize_state.space_or_tab_connect ≡ true → LinkedBefore T

-- How runs end.

abbrev pub start_ends : Tokenizer → Bool → Tokenizer → Type 0
start_ends T ok U =
    let s = T.tokenize_state in
    EndsAs (space_or_tab s.space_or_tab_token s.space_or_tab_content s.space_or_tab_min s.space_or_tab_max) (link_before s.space_or_tab_connect T) (rested s) T ok U

-- the blank codes that are still taken
abbrev pub taken : TokenizeState → List Code → List Code
taken s cs = take (s.space_or_tab_max - s.space_or_tab_size) (span is_blank cs).0

abbrev pub inside_ends : Tokenizer → Bool → Tokenizer → Type 0
inside_ends T ok U =
    let s = T.tokenize_state in
    let front = taken s (ahead T) in
    (ok ≡ nat_le s.space_or_tab_min (s.space_or_tab_size + length front))
    × (U ≡ scratched (rested s) (exited s.space_or_tab_token (passed front T)))

abbrev pub after_ends : Tokenizer → Bool → Tokenizer → Type 0
after_ends T ok U =
    (ok ≡ nat_le T.tokenize_state.space_or_tab_min T.tokenize_state.space_or_tab_size) × (U ≡ scratched (rested T.tokenize_state) T)

-- The states.

abbrev pub start_words : StateWords
start_words = record { ready = SpaceOrTabStartReady; step = start_step; ends = start_ends; rank = λ T. 3 }

abbrev pub inside_words : StateWords
inside_words = record { ready = λ T. IsOpen T.tokenize_state.space_or_tab_token T; step = inside_step; ends = inside_ends; rank = λ T. 2 }

abbrev pub after_words : StateWords
after_words = record { ready = λ T. Unit {0}; step = after_step; ends = after_ends; rank = λ T. 1 }

-- a part of what is said of these states, and of any other as it is given
abbrev pub said {ℓ} : {A : Type ℓ} → (StateWords → A) → (StateName → A) → StateName → A
said part other SpaceOrTabStart = part start_words
said part other SpaceOrTabInside = part inside_words
said part other SpaceOrTabAfter = part after_words
said part other s = other s

-- all of it
abbrev pub states : (StateName → StateWords) → StateName → StateWords
states other s = said (λ (w : StateWords). w) other s
