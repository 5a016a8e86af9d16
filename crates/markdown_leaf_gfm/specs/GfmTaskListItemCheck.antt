-- What the states of a check of a task list item do, and how runs from them end.
use Rattle.std.specs.Prelude.{◌≡◌, ◌≤◌, ℕ, Bool, true, false, ◌&&◌, ◌||◌, not, ◌==◌, if◌then◌else◌, Option, Some, None, is_none, List, [], ◌∷◌, codes}
use Rattle.markdown_content.specs.ListFunctions.{rest_of}
use Rattle.markdown_engine.specs.Operations.{Op, Enter, Exit, Consume, IsOpen, ahead, attempted, done, current_of, previous_of, scratched}
use Rattle.markdown_engine.specs.PastTree.{EndsAs, TreeReading}
use Rattle.markdown_engine.specs.StateRuns.{Stepped, stepped}
use Rattle.markdown_engine.specs.Weights.{codes_left}
use Rattle.markdown_model.specs.CodeTests.{is_value, is_among, is_whitespace_code, is_empty, next_is}
use Rattle.markdown_model.specs.LeafConstructs.{begins_task_text}
use Rattle.markdown_model.specs.SingleConstructs as SingleConstructs
use Rattle.markdown_plan.specs.ByteTests.{among_values, at_blank}
use Rattle.markdown_plan.specs.Plan.{Plan, preceded, KeepsAs}
use Rattle.markdown_partial.specs.PartialSpaceOrTab as PartialSpaceOrTab
use Rattle.markdown_partial.specs.PartialSpaceOrTab.{most, asked, rested}
use Rattle.markdown_event.specs.declared.event.Name.{Name}
use Rattle.markdown_event.specs.declared.event.Name.TheVariants as N
use Rattle.markdown_event.specs.declared.state.State.TheVariants.{Next, Retry, Nok}
use Rattle.markdown_event.specs.declared.state.State.TheVariants as State
use Rattle.markdown_event.specs.declared.state.StateName.TheVariants.{GfmTaskListItemCheckInside, GfmTaskListItemCheckClose, GfmTaskListItemCheckAfter, GfmTaskListItemCheckAfterSpaceOrTab, SpaceOrTabStart, GfmTaskListItemCheckStart}
use Rattle.markdown_engine.specs.declared.tokenizer.TokenizeState.{TokenizeState}
use Rattle.markdown_engine.specs.declared.tokenizer.Tokenizer.{Tokenizer}
use Rattle.markdown_engine.specs.StateWords.{StateWords}
use Rattle.markdown_event.specs.declared.state.StateName.{StateName}
use Rattle.std.specs.Str.{byte}

-- Operations.

abbrev pub opening : List Op
opening = Enter N.GfmTaskListItemCheck ∷ Enter N.GfmTaskListItemMarker ∷ Consume ∷ Exit N.GfmTaskListItemMarker ∷ []

abbrev pub value : Name → List Op
value name = Enter name ∷ Consume ∷ Exit name ∷ []

abbrev pub closing : List Op
closing = Enter N.GfmTaskListItemMarker ∷ Consume ∷ Exit N.GfmTaskListItemMarker ∷ Exit N.GfmTaskListItemCheck ∷ []

-- Tests on the value of a code.

abbrev pub is_mark : ℕ → Bool
is_mark v = among_values (codes "xX") v

abbrev pub is_space : ℕ → Bool
is_space v = (v == byte " " || v == byte "\t") || v == byte "\n"

-- The states, by the current code.

-- checks are on, and the first paragraph of a list item begins here
abbrev pub may_begin : Tokenizer → Bool
may_begin T = SingleConstructs.looks_for_check T.parse_state.now.options.now T.tokenize_state.document_at_first_paragraph_of_list_item (is_none (previous_of T))

abbrev pub start_at : Bool → Option ℕ → Tokenizer → Stepped
start_at may None T = stepped Nok T
start_at may (Some c) T = if may && (c == byte "[") then stepped (Next GfmTaskListItemCheckInside) (done opening T) else stepped Nok T

abbrev pub start_step : Tokenizer → Stepped
start_step T = start_at (may_begin T) (current_of T) T

abbrev pub inside_at : Option ℕ → Tokenizer → Stepped
inside_at None T = stepped Nok T
inside_at (Some c) T =
    if is_mark c then stepped (Next GfmTaskListItemCheckClose) (done (value N.GfmTaskListItemValueChecked) T)
    else (if is_space c then stepped (Next GfmTaskListItemCheckClose) (done (value N.GfmTaskListItemValueUnchecked) T) else stepped Nok T)

abbrev pub inside_step : Tokenizer → Stepped
inside_step T = inside_at (current_of T) T

abbrev pub close_at : Option ℕ → Tokenizer → Stepped
close_at None T = stepped Nok T
close_at (Some c) T = if c == byte "]" then stepped (Next GfmTaskListItemCheckAfter) (done closing T) else stepped Nok T

abbrev pub close_step : Tokenizer → Stepped
close_step T = close_at (current_of T) T

-- with one or more blank codes asked for
abbrev pub space_asked : TokenizeState → TokenizeState
space_asked s = asked 1 most N.SpaceOrTab false None s

-- blank codes are attempted, in a check
abbrev pub looked : Tokenizer → Tokenizer
looked T = attempted false (Next GfmTaskListItemCheckAfterSpaceOrTab) Nok (attempted true State.Ok Nok (scratched (space_asked T.tokenize_state) T))

abbrev pub after_at : Option ℕ → Tokenizer → Stepped
after_at None T = stepped Nok T
after_at (Some c) T =
    if c == byte "\n" then stepped State.Ok T
    else (if at_blank (Some c) then stepped (Retry SpaceOrTabStart) (looked T) else stepped Nok T)

abbrev pub after_step : Tokenizer → Stepped
after_step T = after_at (current_of T) T

abbrev pub after_space_or_tab_at : Option ℕ → Tokenizer → Stepped
after_space_or_tab_at None T = stepped Nok T
after_space_or_tab_at (Some c) T = stepped State.Ok T

abbrev pub after_space_or_tab_step : Tokenizer → Stepped
after_space_or_tab_step T = after_space_or_tab_at (current_of T) T

-- When they may be called.

-- blank codes may be asked for: their fields are at rest, and fewer codes are left than a `usize` counts
pub record MayLook (T : Tokenizer) : Type 0 where
  pub resting : rested T.tokenize_state ≡ T.tokenize_state
  pub short : codes_left T ≤ most

-- between the brackets
pub record IsCheckOpened (T : Tokenizer) : Type 0 where
  pub whole : IsOpen N.GfmTaskListItemCheck T
  pub look : MayLook T

-- How runs end.

-- the codes at hand read as a check, where one may begin
abbrev pub check_here : Tokenizer → TreeReading
check_here T = SingleConstructs.gfm_task_list_item_check_here T.parse_state.now.options.now T.tokenize_state.document_at_first_paragraph_of_list_item (is_none (previous_of T))

abbrev pub start_ends : Tokenizer → Bool → Tokenizer → Type 0
start_ends T ok U = EndsAs (check_here T) None T.tokenize_state T ok U

-- the text of the item follows
abbrev pub after_plan : Plan
after_plan cs = if begins_task_text cs then Some [] else None

abbrev pub close_plan : Plan
close_plan cs = if next_is (is_value (byte "]")) cs then preceded closing (after_plan (rest_of cs)) else None

abbrev pub inside_plan : Plan
inside_plan cs =
    if next_is (is_among (codes "xX")) cs then preceded (value N.GfmTaskListItemValueChecked) (close_plan (rest_of cs))
    else (if next_is is_whitespace_code cs then preceded (value N.GfmTaskListItemValueUnchecked) (close_plan (rest_of cs)) else None)

abbrev pub inside_ends : Tokenizer → Bool → Tokenizer → Type 0
inside_ends T ok U = KeepsAs 1 inside_plan T ok U

abbrev pub close_ends : Tokenizer → Bool → Tokenizer → Type 0
close_ends T ok U = KeepsAs 1 close_plan T ok U

abbrev pub after_ends : Tokenizer → Bool → Tokenizer → Type 0
after_ends T ok U = KeepsAs 0 after_plan T ok U

-- it ends where it stands, by whether a code is left
abbrev pub after_space_or_tab_ends : Tokenizer → Bool → Tokenizer → Type 0
after_space_or_tab_ends T ok U = (ok ≡ not (is_empty (ahead T))) × (U ≡ T)

-- The states.

abbrev pub start_words : StateWords
start_words = record { ready = MayLook; step = start_step; ends = start_ends; rank = λ T. 2 }

abbrev pub inside_words : StateWords
inside_words = record { ready = IsCheckOpened; step = inside_step; ends = inside_ends; rank = λ T. 1 }

abbrev pub close_words : StateWords
close_words = record { ready = IsCheckOpened; step = close_step; ends = close_ends; rank = λ T. 1 }

abbrev pub after_words : StateWords
after_words = record { ready = MayLook; step = after_step; ends = after_ends; rank = λ T. 4 }

abbrev pub after_space_or_tab_words : StateWords
after_space_or_tab_words = record { ready = λ T. Unit {0}; step = after_space_or_tab_step; ends = after_space_or_tab_ends; rank = λ T. 1 }

-- a part of what is said of these states, and of any other as it is given
abbrev pub said {ℓ} : {A : Type ℓ} → (StateWords → A) → (StateName → A) → StateName → A
said part other GfmTaskListItemCheckStart = part start_words
said part other GfmTaskListItemCheckInside = part inside_words
said part other GfmTaskListItemCheckClose = part close_words
said part other GfmTaskListItemCheckAfter = part after_words
said part other GfmTaskListItemCheckAfterSpaceOrTab = part after_space_or_tab_words
said part other s = other s

-- all of it
abbrev pub states : (StateName → StateWords) → StateName → StateWords
states other s = said (λ (w : StateWords). w) other s

-- the states of others that they call, and any other as it is given
abbrev pub called : (StateName → StateWords) → StateName → StateWords
called other SpaceOrTabStart = PartialSpaceOrTab.start_words
called other s = other s

abbrev pub states_and_called : (StateName → StateWords) → StateName → StateWords
states_and_called other s = states (called other) s
