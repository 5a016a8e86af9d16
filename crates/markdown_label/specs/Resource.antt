-- What the states of a resource do, and how runs from them end.
use Rattle.std.specs.Prelude.{◌≡◌, ℕ, Bool, true, false, ◌==◌, ◌&&◌, ◌||◌, if◌then◌else◌, List, [], ◌∷◌, ◌++◌, Option, Some, None}
use Rattle.std.specs.Str.{byte}
use Rattle.markdown_content.specs.Codes.{Code}
use Rattle.markdown_engine.specs.FailedRun.{Grown}
use Rattle.markdown_engine.specs.Operations.{Op, Enter, Exit, Consume, IsOpen, ahead, applied, attempted, current_of, done, scratched}
use Rattle.markdown_engine.specs.PastTree.{EndsAs, TreeReading, past, behind}
use Rattle.markdown_engine.specs.StateRuns.{Stepped, stepped}
use Rattle.markdown_notes.specs.SequenceIndex.{rules_out}
use Rattle.markdown_engine.specs.StateWords.{StateWords}
use Rattle.markdown_notes.specs.TitleIndex as Titles
use Rattle.markdown_content.specs.Tree.{Forest, leaf, leaf_codes}
use Rattle.markdown_event.specs.declared.event.Name.TheVariants as N
use Rattle.markdown_notes.specs.declared.sequence_index.Sequence.TheVariants.{ResourceEnd}
use Rattle.markdown_event.specs.declared.state.State.TheVariants.{Next, Retry, Ok, Nok}
use Rattle.markdown_event.specs.declared.state.StateName.{StateName}
use Rattle.markdown_event.specs.declared.state.StateName.TheVariants.{DestinationStart, LabelEndResourceBefore, LabelEndResourceBetween, LabelEndResourceDestinationAfter, LabelEndResourceDestinationMissing, LabelEndResourceEnd, LabelEndResourceOpen, LabelEndResourceStart, LabelEndResourceTitleAfter, SpaceOrTabEolStart, TitleStart}
use Rattle.markdown_engine.specs.declared.tokenizer.TokenizeState.{TokenizeState}
use Rattle.markdown_engine.specs.declared.tokenizer.Tokenizer.{Tokenizer}
use Rattle.markdown_model.specs.CodeTests.{is_value, next_is}
use Rattle.markdown_model.specs.Grammar.{◌>>=◌, gives, one}
use Rattle.markdown_model.specs.Resource.{begins_title, destination, resource, resource_names, title, title_names}
use Rattle.markdown_model.specs.Whitespace.{space_or_tab_eol}
use Rattle.markdown_partial.specs.LinkedText.{rules_in}
use Rattle.markdown_partial.specs.PartialSpaceOrTabEol as PartialSpaceOrTabEol
use Rattle.markdown_partial.specs.PartialSpaceOrTabEol.{eol_asked}
use Rattle.markdown_partial.specs.PartialDestination as PartialDestination
use Rattle.markdown_partial.specs.PartialTitle as PartialTitle
use Rattle.markdown_label.specs.AfterLabelParts.{names_rested, PartReady}

-- The scratch fields.

abbrev pub destination_asked : TokenizeState → TokenizeState
destination_asked s = record s {
  size_b = 32;
  token_1 = N.ResourceDestination;
  token_2 = N.ResourceDestinationLiteral;
  token_3 = N.ResourceDestinationLiteralMarker;
  token_4 = N.ResourceDestinationRaw;
  token_5 = N.ResourceDestinationString;
}

abbrev pub destination_rested : TokenizeState → TokenizeState
destination_rested s = record s { size_b = 0; token_1 = N.Data; token_2 = N.Data; token_3 = N.Data; token_4 = N.Data; token_5 = N.Data }

abbrev pub title_asked : TokenizeState → TokenizeState
title_asked s = record s { token_1 = N.ResourceTitle; token_2 = N.ResourceTitleMarker; token_3 = N.ResourceTitleString }

-- What the states do.

abbrev pub front_ops : List Op
front_ops = Enter N.ResourceMarker ∷ Consume ∷ Exit N.ResourceMarker ∷ []

abbrev pub start_at : Option ℕ → Tokenizer → Stepped
start_at None T = stepped Nok T
start_at (Some c) T = if c == byte "(" then stepped (Next LabelEndResourceBefore) (done (Enter N.Resource ∷ front_ops) T) else stepped Nok T

abbrev pub start_step : Tokenizer → Stepped
start_step T = start_at (current_of T) T

abbrev pub at_space : Option ℕ → Bool
at_space None = false
at_space (Some v) = v == byte "\t" || (v == byte "\n" || v == byte " ")

-- whitespace is tried, and the run goes on with these states
abbrev pub spaced : StateName → StateName → Tokenizer → Stepped
spaced ok nok T = stepped (Retry SpaceOrTabEolStart) (attempted false (Next ok) (Next nok) (scratched (eol_asked false None T.tokenize_state) T))

abbrev pub before_step : Tokenizer → Stepped
before_step T = if at_space (current_of T) then spaced LabelEndResourceOpen LabelEndResourceOpen T else stepped (Retry LabelEndResourceOpen) T

abbrev pub at_close : Option ℕ → Bool
at_close None = false
at_close (Some v) = v == byte ")"

abbrev pub open_step : Tokenizer → Stepped
open_step T =
    if at_close (current_of T) then stepped (Retry LabelEndResourceEnd) T
    else stepped (Retry DestinationStart) (attempted false (Next LabelEndResourceDestinationAfter) (Next LabelEndResourceDestinationMissing) (scratched (destination_asked T.tokenize_state) T))

abbrev pub destination_put : Tokenizer → Tokenizer
destination_put T = scratched (destination_rested T.tokenize_state) T

abbrev pub destination_after_step : Tokenizer → Stepped
destination_after_step T = if at_space (current_of T) then spaced LabelEndResourceBetween LabelEndResourceEnd (destination_put T) else stepped (Retry LabelEndResourceEnd) (destination_put T)

-- also where a title is missing: it puts all names to rest
abbrev pub missing_step : Tokenizer → Stepped
missing_step T = stepped Nok (destination_put T)

abbrev pub at_title : Option ℕ → Bool
at_title None = false
at_title (Some v) = v == byte "\"" || (v == byte "'" || (v == byte "(" || false))

abbrev pub at_parenthesis : Option ℕ → Bool
at_parenthesis None = false
at_parenthesis (Some v) = v == byte "("

-- a title in parentheses may begin here, and it is known that no resource ends behind one
abbrev pub is_hopeless : Tokenizer → Bool
is_hopeless T = at_parenthesis (current_of T) && (rules_out T.tokenize_state.sequences ResourceEnd T.cursor.at || Titles.rules_out T.tokenize_state.titles T.cursor.at)

abbrev pub between_step : Tokenizer → Stepped
between_step T =
    if is_hopeless T then stepped Nok T
    else if at_title (current_of T) then stepped (Retry TitleStart) (attempted false (Next LabelEndResourceTitleAfter) (Next LabelEndResourceDestinationMissing) (scratched (title_asked T.tokenize_state) T))
    else stepped (Retry LabelEndResourceEnd) T

abbrev pub title_put : Tokenizer → Tokenizer
title_put T = scratched (names_rested T.tokenize_state) T

abbrev pub title_after_step : Tokenizer → Stepped
title_after_step T = if at_space (current_of T) then spaced LabelEndResourceEnd LabelEndResourceEnd (title_put T) else stepped (Retry LabelEndResourceEnd) (title_put T)

abbrev pub end_step : Tokenizer → Stepped
end_step T = if at_close (current_of T) then stepped Ok (done (front_ops ++ Exit N.Resource ∷ []) T) else stepped Nok T

-- How runs end: in the resource, what is to come of the trees inside it.

pub record RowReads (reading : TreeReading) (s : TokenizeState) (T U : Tokenizer) : Type 0 where
  pub tree : Forest
  pub rest : List Code
  pub holds : reading (ahead T) ≡ Some (tree, rest)
  pub left : U ≡ applied (Exit N.Resource) (past None tree (scratched s T))
  pub whole : ahead T ≡ leaf_codes tree ++ rest
  pub after : ahead U ≡ rest

pub record RowRefuses (reading : TreeReading) (s : TokenizeState) (T U : Tokenizer) : Type 0 where
  pub refused : reading (ahead T) ≡ None
  pub grown : Grown 1 T U
  pub scratch : U.tokenize_state ≡ s

abbrev pub RowEnds : TreeReading → TokenizeState → Tokenizer → Bool → Tokenizer → Type 0
RowEnds reading s T true U = RowReads reading s T U
RowEnds reading s T false U = RowRefuses reading s T U

-- The rest of these trees, from each place on.

abbrev pub closes : TreeReading
closes cs = (one (is_value (byte ")")) >>= λ back. gives (leaf N.ResourceMarker back)) cs

-- a part and then what follows it, which may also stand without it
abbrev pub or_without : Option (Forest × List Code) → TreeReading → List Code → Option (Forest × List Code)
or_without None next cs = next cs
or_without (Some r) next cs = behind r.0 (next r.1)

abbrev pub and_then : Option (Forest × List Code) → TreeReading → Option (Forest × List Code)
and_then None next = None
and_then (Some r) next = behind r.0 (next r.1)

abbrev pub after_title : TreeReading
after_title cs = or_without (space_or_tab_eol None cs) closes cs

-- `both` says that the opening parenthesis of a title has to be escaped too
module _ (both : Bool) where
  abbrev pub between : TreeReading
  between cs = if begins_title cs then and_then (title both title_names cs) after_title else closes cs

  -- behind a destination: whitespace and what may follow it, or the end
  abbrev pub after_destination_of : Option (Forest × List Code) → List Code → Option (Forest × List Code)
  after_destination_of None cs = closes cs
  after_destination_of (Some r) cs = behind r.0 (between r.1)

  abbrev pub after_destination : TreeReading
  after_destination cs = after_destination_of (space_or_tab_eol None cs) cs

  abbrev pub opened : TreeReading
  opened cs = if next_is (is_value (byte ")")) cs then closes cs else and_then (destination 32 resource_names cs) after_destination

  abbrev pub inside : TreeReading
  inside cs = or_without (space_or_tab_eol None cs) opened cs

-- by CommonMark's rule it has to be
abbrev pub asks_both : Tokenizer → Bool
asks_both T = (rules_in T).escaped_parentheses

-- When they may be called.

pub record InReady (T : Tokenizer) : Type 0 where
  pub part : PartReady T
  pub whole : IsOpen N.Resource T

-- behind a destination or a title, whose names are still set
pub record BehindReady (put : Tokenizer → Tokenizer) (T : Tokenizer) : Type 0 where
  pub part : PartReady (put T)
  pub whole : IsOpen N.Resource T

abbrev pub before_ends : Tokenizer → Bool → Tokenizer → Type 0
before_ends T ok U = RowEnds (inside (asks_both T)) T.tokenize_state T ok U

abbrev pub open_ends : Tokenizer → Bool → Tokenizer → Type 0
open_ends T ok U = RowEnds (opened (asks_both T)) T.tokenize_state T ok U

abbrev pub destination_after_ends : Tokenizer → Bool → Tokenizer → Type 0
destination_after_ends T ok U = RowEnds (after_destination (asks_both T)) (destination_rested T.tokenize_state) T ok U

abbrev pub missing_ends : Tokenizer → Bool → Tokenizer → Type 0
missing_ends T ok U = (ok ≡ false) × (U ≡ destination_put T)

abbrev pub between_ends : Tokenizer → Bool → Tokenizer → Type 0
between_ends T ok U = RowEnds (between (asks_both T)) T.tokenize_state T ok U

abbrev pub title_after_ends : Tokenizer → Bool → Tokenizer → Type 0
title_after_ends T ok U = RowEnds after_title (names_rested T.tokenize_state) T ok U

abbrev pub end_ends : Tokenizer → Bool → Tokenizer → Type 0
end_ends T ok U = RowEnds closes T.tokenize_state T ok U

-- the whole of it
abbrev pub resource_ends : Tokenizer → Bool → Tokenizer → Type 0
resource_ends T ok U = EndsAs (resource (asks_both T)) None T.tokenize_state T ok U

-- The states.

abbrev pub start_words : StateWords
start_words = record { ready = PartReady; step = start_step; ends = resource_ends; rank = λ T. 12 }

abbrev pub before_words : StateWords
before_words = record { ready = InReady; step = before_step; ends = before_ends; rank = λ T. 15 }

abbrev pub open_words : StateWords
open_words = record { ready = InReady; step = open_step; ends = open_ends; rank = λ T. 14 }

abbrev pub destination_after_words : StateWords
destination_after_words = record { ready = BehindReady destination_put; step = destination_after_step; ends = destination_after_ends; rank = λ T. 13 }

abbrev pub missing_words : StateWords
missing_words = record { ready = λ T. Unit {0}; step = missing_step; ends = missing_ends; rank = λ T. 1 }

abbrev pub between_words : StateWords
between_words = record { ready = InReady; step = between_step; ends = between_ends; rank = λ T. 12 }

abbrev pub title_after_words : StateWords
title_after_words = record { ready = BehindReady title_put; step = title_after_step; ends = title_after_ends; rank = λ T. 9 }

abbrev pub end_words : StateWords
end_words = record { ready = InReady; step = end_step; ends = end_ends; rank = λ T. 1 }

-- a part of what is said of these states, and of any other as it is given
abbrev pub said {ℓ} : {A : Type ℓ} → (StateWords → A) → (StateName → A) → StateName → A
said part other LabelEndResourceStart = part start_words
said part other LabelEndResourceBefore = part before_words
said part other LabelEndResourceOpen = part open_words
said part other LabelEndResourceDestinationAfter = part destination_after_words
said part other LabelEndResourceDestinationMissing = part missing_words
said part other LabelEndResourceBetween = part between_words
said part other LabelEndResourceTitleAfter = part title_after_words
said part other LabelEndResourceEnd = part end_words
said part other s = other s

-- all of it
abbrev pub states : (StateName → StateWords) → StateName → StateWords
states other s = said (λ (w : StateWords). w) other s

-- the states of others that they call, and any other as it is given
abbrev pub called : (StateName → StateWords) → StateName → StateWords
called other SpaceOrTabEolStart = PartialSpaceOrTabEol.start_words
called other DestinationStart = PartialDestination.start_words
called other TitleStart = PartialTitle.start_words
called other s = other s

abbrev pub states_and_called : (StateName → StateWords) → StateName → StateWords
states_and_called other s = states (called other) s
