-- What the states of the end of a label do, and how runs from them end.
use Rattle.std.specs.Prelude.{◌≡◌, ◌≢◌, ◌≤◌, ◌<◌, ℕ, ◌+◌, ◌-◌, Bool, true, false, ◌==◌, ◌&&◌, not, is_some, if◌then◌else◌, List, [], ◌∷◌, ◌++◌, length, Option, Some, None}
use Rattle.std.specs.Str.{IsCharBoundary, byte}
use Rattle.markdown_content.specs.Codes.{Code}
use Rattle.markdown_engine.specs.FailedRun.{Fails}
use Rattle.markdown_engine.specs.Operations.{Op, Enter, Exit, Consume, IsOpen, ahead, attempted, current_of, done, registered_before, scratched}
use Rattle.markdown_engine.specs.PastTree.{EndsAs, TreeReading, past}
use Rattle.markdown_engine.specs.StateRuns.{Stepped, stepped}
use Rattle.markdown_engine.specs.StateWords.{StateWords}
use Rattle.markdown_content.specs.Tree.{Forest, leaf, group, leaf_codes}
use Rattle.markdown_event.specs.declared.event.Event.{Event}
use Rattle.markdown_event.specs.declared.event.Name.TheVariants as N
use Rattle.markdown_event.specs.declared.resolve.ResolveName.TheVariants as R
use Rattle.markdown_event.specs.declared.state.State.TheVariants.{Next, Retry, Ok, Nok}
use Rattle.markdown_event.specs.declared.state.StateName.{StateName}
use Rattle.markdown_event.specs.declared.state.StateName.TheVariants.{LabelEndStart, LabelEndAfter, LabelEndOk, LabelEndNok, LabelEndResourceStart, LabelEndReferenceFull, LabelEndReferenceFullAfter, LabelEndReferenceFullMissing, LabelEndReferenceNotFull, LabelEndReferenceCollapsed, LabelEndReferenceCollapsedOpen, LabelStart}
use Rattle.markdown_content.specs.declared.label_kind.LabelKind.{LabelKind}
use Rattle.markdown_engine.specs.declared.tokenizer.LabelStart as Kept
use Rattle.markdown_engine.specs.declared.tokenizer.TokenizeState.{TokenizeState}
use Rattle.markdown_engine.specs.declared.tokenizer.Tokenizer.{Tokenizer}
use Rattle.markdown_plan.specs.Characters.{bytes_of, ReadsText}
use Rattle.markdown_plan.specs.Plan.{Plan, KeepsAs}
use Rattle.markdown_model.specs.CodeTests.{is_value, next_is}
use Rattle.markdown_model.specs.Grammar.{Reading, either}
use Rattle.markdown_model.specs.LabelEnd.{is_footnote, full_reference, collapsed_reference, shortcut, names_footnote, names_definition}
use Rattle.markdown_model.specs.Resource.{label, reference_names}
use Rattle.markdown_model.specs.Setting.{defines}
use Rattle.markdown_model.specs.SingleConstructs.{WaitingStart, outcome, outcome_at, label_end_here}
use Rattle.markdown_partial.specs.LinkedText.{rules_in}
use Rattle.markdown_label.specs.AfterLabelParts.{names_rested, PartReady}
use Rattle.markdown_label.specs.Resource as Resource
use Rattle.markdown_partial.specs.PartialLabel as PartialLabel
use Rattle.markdown_label.specs.LabelFields.{AreOrdered, bars, with_kind, as_link, labelled, loosened}
use Rattle.markdown_label_names.specs.LabelSetting.{setting_in, IsListed}
use Rattle.markdown_label_names.specs.LabelNames.{place_at, identifier_between, label_between, AreAround}

-- the label whose end is passed: from the last event of its start to the first one of its end
abbrev pub LabelIsAround : Tokenizer → Type 0
LabelIsAround T = (l : Kept.LabelStart) (ls : List Kept.LabelStart) → T.tokenize_state.label_starts ≡ l ∷ ls → AreAround T l.start.1 T.tokenize_state.end

-- the text of the reference behind it
abbrev pub ReferenceIsAround : Tokenizer → Type 0
ReferenceIsAround T = (4 ≤ length T.events) × AreAround T (T.tokenize_state.end + 7) (length T.events - 4)

-- What the states do.

abbrev pub end_ops : List Op
end_ops = Enter N.LabelEnd ∷ Enter N.LabelMarker ∷ Consume ∷ Exit N.LabelMarker ∷ Exit N.LabelEnd ∷ []

-- with the end's first Enter kept
abbrev pub ended_at : ℕ → TokenizeState → TokenizeState
ended_at n s = record s { end = n }

abbrev pub ended : Tokenizer → Tokenizer
ended T = scratched (ended_at (length T.events) T.tokenize_state) T

-- by the last start
abbrev pub start_by : List Kept.LabelStart → Tokenizer → Stepped
start_by [] T = stepped Nok T
start_by (l ∷ ls) T = if bars l then stepped (Retry LabelEndNok) (ended T) else stepped (Next LabelEndAfter) (done end_ops (ended T))

-- ends are switched on
abbrev pub is_on : Tokenizer → Bool
is_on T = T.parse_state.now.options.now.constructs.label_end

abbrev pub start_at : Option ℕ → Tokenizer → Stepped
start_at None T = stepped Nok T
start_at (Some c) T = if is_on T && (c == byte "]") then start_by T.tokenize_state.label_starts T else stepped Nok T

abbrev pub start_step : Tokenizer → Stepped
start_step T = start_at (current_of T) T

-- where nothing follows that makes a label
abbrev pub by_definition : Bool → StateName
by_definition defined = if defined then LabelEndOk else LabelEndNok

abbrev pub not_full : Bool → StateName
not_full defined = if defined then LabelEndReferenceNotFull else LabelEndNok

abbrev pub tail_at : Bool → Option ℕ → Tokenizer → Stepped
tail_at defined None T = stepped (Retry (by_definition defined)) T
tail_at defined (Some c) T =
    if c == byte "(" then stepped (Retry LabelEndResourceStart) (attempted false (Next LabelEndOk) (Next (by_definition defined)) T)
    else (if c == byte "[" then stepped (Retry LabelEndReferenceFull) (attempted false (Next LabelEndOk) (Next (not_full defined)) T)
    else stepped (Retry (by_definition defined)) T)

abbrev pub starts_set : List Kept.LabelStart → TokenizeState → TokenizeState
starts_set ls s = record s { label_starts = ls }

abbrev pub link_tried : Tokenizer → Tokenizer
link_tried T = scratched (starts_set (as_link T.tokenize_state.label_starts) T.tokenize_state) T

abbrev pub after_as : LabelKind → Option (List ℕ) → Tokenizer → Stepped
after_as kind name T =
    if is_footnote kind && names_footnote (setting_in T) name then stepped (Retry LabelEndOk) T
    else tail_at (names_definition (setting_in T) kind name) (current_of T) (link_tried T)

abbrev pub after_by : List Kept.LabelStart → Tokenizer → Stepped
after_by [] T = stepped Nok T
after_by (l ∷ ls) T = after_as l.kind (label_between T l.kind l.start.1 T.tokenize_state.end) T

abbrev pub after_step : Tokenizer → Stepped
after_step T = after_by T.tokenize_state.label_starts T

-- as a label leaves it
abbrev pub made_here : Tokenizer → Tokenizer
made_here T = registered_before R.Label (scratched (labelled T.tokenize_state.label_starts (length T.events - 1) T.tokenize_state) T)

abbrev pub ok_step : Tokenizer → Stepped
ok_step T = stepped Ok (made_here T)

abbrev pub lost_here : Tokenizer → Tokenizer
lost_here T = scratched (loosened T.tokenize_state.label_starts T.tokenize_state) T

abbrev pub nok_step : Tokenizer → Stepped
nok_step T = stepped Nok (lost_here T)

-- References.

abbrev pub names_set : TokenizeState → TokenizeState
names_set s = record s { token_1 = N.Reference; token_2 = N.ReferenceMarker; token_3 = N.ReferenceString }

-- with a label seen that is not defined
abbrev pub label_seen : Bool → TokenizeState → TokenizeState
label_seen b s = record s { seen = b }

-- a shortcut may stand before a `[`, so that it matters whether a label stands there
abbrev pub label_matters : Tokenizer → Bool
label_matters T = (rules_in T).shortcut_before_bracket

abbrev pub reference_full_step : Tokenizer → Stepped
reference_full_step T = stepped (Retry LabelStart) (attempted false (Next LabelEndReferenceFullAfter) (Next LabelEndReferenceFullMissing) (scratched (names_set T.tokenize_state) T))

-- the reference's text stands behind the end's own four events and its first marker, up to its last marker
abbrev pub reference_name : Tokenizer → List ℕ
reference_name T = identifier_between T (T.tokenize_state.end + 7) (length T.events - 4)

abbrev pub reference_full_after_step : Tokenizer → Stepped
reference_full_after_step T =
    if defines (setting_in T) (reference_name T)
    then stepped Ok (scratched (names_rested T.tokenize_state) T)
    else stepped Nok (scratched (label_seen (label_matters T) (names_rested T.tokenize_state)) T)

abbrev pub reference_full_missing_step : Tokenizer → Stepped
reference_full_missing_step T = stepped Nok (scratched (names_rested T.tokenize_state) T)

-- a shortcut may stand before a `[` that begins neither `[]` nor a label
abbrev pub may_be_shortcut : Tokenizer → Bool
may_be_shortcut T = label_matters T && not T.tokenize_state.seen

abbrev pub reference_not_full_step : Tokenizer → Stepped
reference_not_full_step T =
    stepped (Retry LabelEndReferenceCollapsed) (attempted false (Next LabelEndOk) (Next (by_definition (may_be_shortcut T))) (scratched (label_seen false T.tokenize_state) T))

abbrev pub collapsed_front : List Op
collapsed_front = Enter N.Reference ∷ Enter N.ReferenceMarker ∷ Consume ∷ Exit N.ReferenceMarker ∷ []

abbrev pub collapsed_back : List Op
collapsed_back = Enter N.ReferenceMarker ∷ Consume ∷ Exit N.ReferenceMarker ∷ Exit N.Reference ∷ []

abbrev pub collapsed_at : Option ℕ → Tokenizer → Stepped
collapsed_at None T = stepped Nok T
collapsed_at (Some c) T = if c == byte "[" then stepped (Next LabelEndReferenceCollapsedOpen) (done collapsed_front T) else stepped Nok T

abbrev pub reference_collapsed_step : Tokenizer → Stepped
reference_collapsed_step T = collapsed_at (current_of T) T

abbrev pub collapsed_open_at : Option ℕ → Tokenizer → Stepped
collapsed_open_at None T = stepped Nok T
collapsed_open_at (Some c) T = if c == byte "]" then stepped Ok (done collapsed_back T) else stepped Nok T

abbrev pub reference_collapsed_open_step : Tokenizer → Stepped
reference_collapsed_open_step T = collapsed_open_at (current_of T) T

-- When they may be called.

-- a start's events are among those there are, and it ends between characters
pub record EndsBetween (T : Tokenizer) (l : Kept.LabelStart) : Type 0 where
  pub within : l.start.1 < length T.events
  pub between : IsCharBoundary (bytes_of T) (place_at T.events l.start.1).index

abbrev pub AllEndBetween : Tokenizer → List Kept.LabelStart → Type 0
AllEndBetween T [] = Unit {0}
AllEndBetween T (l ∷ ls) = EndsBetween T l × AllEndBetween T ls

-- so of all starts, last one first; and a link or a call that was made behind one was made behind those before it too
abbrev pub AreStartsWithin : Tokenizer → List Kept.LabelStart → Type 0
AreStartsWithin T ls = AllEndBetween T ls × AreOrdered ls

pub record LabelEndStartReady (T : Tokenizer) : Type 0 where
  pub part : PartReady T
  pub listed : IsListed T
  pub text : ReadsText T
  pub within : AreStartsWithin T T.tokenize_state.label_starts
  pub resting : T.tokenize_state.end ≡ 0

-- the end's four events are the last ones
pub record AfterReady (T : Tokenizer) : Type 0 where
  pub part : PartReady T
  pub listed : IsListed T
  pub some : T.tokenize_state.label_starts ≢ []
  pub ordered : AreOrdered T.tokenize_state.label_starts
  pub text : ReadsText T
  pub around : LabelIsAround T
  pub end : length T.events ≡ T.tokenize_state.end + 4

pub record FullReady (T : Tokenizer) : Type 0 where
  pub part : PartReady T
  pub listed : IsListed T
  pub text : ReadsText T
  pub end : length T.events ≡ T.tokenize_state.end + 4

-- How runs end.

-- A tail follows, and the last start makes a label.

pub record MakesTail (reading : TreeReading) (T U : Tokenizer) : Type 0 where
  pub tail : Forest
  pub rest : List Code
  pub holds : reading (ahead T) ≡ Some (tail, rest)
  pub left : U ≡ made_here (past None tail T)
  pub whole : ahead T ≡ leaf_codes tail ++ rest
  pub after : ahead U ≡ rest

pub record LosesTail (reading : TreeReading) (T U : Tokenizer) : Type 0 where
  pub refused : reading (ahead T) ≡ None
  pub fails : Fails (loosened T.tokenize_state.label_starts T.tokenize_state) T U

abbrev pub tail_ends : TreeReading → Tokenizer → Bool → Tokenizer → Type 0
tail_ends reading T true U = MakesTail reading T U
tail_ends reading T false U = LosesTail reading T U

-- The label whose end is passed is made, as this kind and with this tail.

abbrev pub kind_set : LabelKind → Tokenizer → Tokenizer
kind_set kind T = scratched (starts_set (with_kind kind T.tokenize_state.label_starts) T.tokenize_state) T

unfoldable pub made : LabelKind → Forest → Tokenizer → Tokenizer
made kind tail T = made_here (past None tail (kind_set kind T))

abbrev pub MadeReading : Type 0
MadeReading = Reading (LabelKind × Forest)

pub record Makes (reading : MadeReading) (T U : Tokenizer) : Type 0 where
  pub kind : LabelKind
  pub tail : Forest
  pub rest : List Code
  pub holds : reading (ahead T) ≡ Some ((kind, tail), rest)
  pub left : U ≡ made kind tail T
  pub whole : ahead T ≡ leaf_codes tail ++ rest
  pub after : ahead U ≡ rest

pub record Loses (reading : MadeReading) (s : TokenizeState) (T U : Tokenizer) : Type 0 where
  pub refused : reading (ahead T) ≡ None
  pub fails : Fails s T U

-- what the end makes whose `]` is passed
abbrev pub after_reading_of : List Kept.LabelStart → Tokenizer → MadeReading
after_reading_of [] T cs = None
after_reading_of (l ∷ ls) T cs = outcome (setting_in T) l.kind (label_between T l.kind l.start.1 T.tokenize_state.end) cs

abbrev pub after_reading : Tokenizer → MadeReading
after_reading T = after_reading_of T.tokenize_state.label_starts T

abbrev pub after_ends : Tokenizer → Bool → Tokenizer → Type 0
after_ends T true U = Makes (after_reading T) T U
after_ends T false U = Loses (after_reading T) (loosened (as_link T.tokenize_state.label_starts) T.tokenize_state) T U

abbrev pub ok_ends : Tokenizer → Bool → Tokenizer → Type 0
ok_ends T ok U = (ok ≡ true) × (U ≡ made_here T)

abbrev pub nok_ends : Tokenizer → Bool → Tokenizer → Type 0
nok_ends T ok U = (ok ≡ false) × (U ≡ lost_here T)

-- the end of a label: the start that it takes, and what it makes
abbrev pub end_tree : List Code → Forest
end_tree back = group N.LabelEnd (leaf N.LabelMarker back)

-- the last start kept, as the definitions see it
abbrev pub last_start : List Event → List Kept.LabelStart → Option WaitingStart
last_start es [] = None
last_start es (l ∷ ls) = Some (record { kind = l.kind; stop = place_at es l.start.1; barred = bars l })

-- what an end makes of the last of these starts, whose `]` this is
abbrev pub outcome_by : List Kept.LabelStart → Tokenizer → List Code → MadeReading
outcome_by ls T = outcome_at (setting_in T) (last_start T.events ls)

abbrev pub end_reading : Tokenizer → Reading (List Code × (LabelKind × Forest))
end_reading T = label_end_here (setting_in T) (last_start T.events T.tokenize_state.label_starts)

-- the fields that a failed end leaves: its start is used up, tried as a link's unless it is barred
abbrev pub lost_starts : List Kept.LabelStart → List Kept.LabelStart
lost_starts [] = []
lost_starts (l ∷ ls) = if bars l then l ∷ ls else as_link (l ∷ ls)

abbrev pub lost_by : List Kept.LabelStart → TokenizeState → TokenizeState
lost_by [] s = s
lost_by (l ∷ ls) s = loosened (lost_starts (l ∷ ls)) s

abbrev pub lost_fields : Tokenizer → TokenizeState
lost_fields T =
    let s : TokenizeState = T.tokenize_state in
    if is_on T && next_is (is_value (byte "]")) (ahead T) then lost_by s.label_starts s else s

-- the end is made: its own events, and what follows
unfoldable pub end_made : List Code → LabelKind → Forest → Tokenizer → Tokenizer
end_made back kind tail T = made kind tail (past None (end_tree back) (ended T))

pub record Ends (T U : Tokenizer) : Type 0 where
  pub back : List Code
  pub kind : LabelKind
  pub tail : Forest
  pub rest : List Code
  pub holds : end_reading T (ahead T) ≡ Some ((back, (kind, tail)), rest)
  pub left : U ≡ end_made back kind tail T
  pub whole : ahead T ≡ back ++ (leaf_codes tail ++ rest)
  pub after : ahead U ≡ rest

pub record EndFails (T U : Tokenizer) : Type 0 where
  pub refused : end_reading T (ahead T) ≡ None
  pub fails : Fails (lost_fields T) T U

abbrev pub start_ends : Tokenizer → Bool → Tokenizer → Type 0
start_ends T true U = Ends T U
start_ends T false U = EndFails T U

-- a full reference, or not; then it shows whether a label stands there, where that matters
pub record FullFails (T U : Tokenizer) : Type 0 where
  pub refused : full_reference (setting_in T) (ahead T) ≡ None
  pub fails : Fails (label_seen (label_matters T && is_some (label (rules_in T).labels_by_characters reference_names (ahead T))) T.tokenize_state) T U

abbrev pub reference_full_ends : Tokenizer → Bool → Tokenizer → Type 0
reference_full_ends T true U = EndsAs (full_reference (setting_in T)) None T.tokenize_state T true U
reference_full_ends T false U = FullFails T U

abbrev pub reference_full_after_ends : Tokenizer → Bool → Tokenizer → Type 0
reference_full_after_ends T ok U =
    (ok ≡ defines (setting_in T) (reference_name T))
    × (U ≡ scratched (if ok then names_rested T.tokenize_state else label_seen (label_matters T) (names_rested T.tokenize_state)) T)

abbrev pub reference_full_missing_ends : Tokenizer → Bool → Tokenizer → Type 0
reference_full_missing_ends T ok U = (ok ≡ false) × (U ≡ scratched (names_rested T.tokenize_state) T)

-- where no full reference stands
abbrev pub not_full_reading : Tokenizer → TreeReading
not_full_reading T = either collapsed_reference (shortcut (may_be_shortcut T))

abbrev pub reference_not_full_ends : Tokenizer → Bool → Tokenizer → Type 0
reference_not_full_ends T ok U = tail_ends (not_full_reading T) (scratched (label_seen false T.tokenize_state) T) ok U

abbrev pub reference_collapsed_ends : Tokenizer → Bool → Tokenizer → Type 0
reference_collapsed_ends T ok U = EndsAs collapsed_reference None T.tokenize_state T ok U

abbrev pub collapsed_open_plan : Plan
collapsed_open_plan cs = if next_is (is_value (byte "]")) cs then Some collapsed_back else None

abbrev pub reference_collapsed_open_ends : Tokenizer → Bool → Tokenizer → Type 0
reference_collapsed_open_ends T ok U = KeepsAs 1 collapsed_open_plan T ok U

-- The states.

abbrev pub start_words : StateWords
start_words = record { ready = LabelEndStartReady; step = start_step; ends = start_ends; rank = λ T. 3 }

abbrev pub after_words : StateWords
after_words = record { ready = AfterReady; step = after_step; ends = after_ends; rank = λ T. 13 }

abbrev pub ok_words : StateWords
ok_words = record { ready = λ T. AreOrdered T.tokenize_state.label_starts; step = ok_step; ends = ok_ends; rank = λ T. 1 }

abbrev pub nok_words : StateWords
nok_words = record { ready = λ T. Unit {0}; step = nok_step; ends = nok_ends; rank = λ T. 1 }

abbrev pub reference_full_words : StateWords
reference_full_words = record { ready = FullReady; step = reference_full_step; ends = reference_full_ends; rank = λ T. 12 }

abbrev pub reference_full_after_words : StateWords
reference_full_after_words = record { ready = ReferenceIsAround; step = reference_full_after_step; ends = reference_full_after_ends; rank = λ T. 1 }

abbrev pub reference_full_missing_words : StateWords
reference_full_missing_words = record { ready = λ T. Unit {0}; step = reference_full_missing_step; ends = reference_full_missing_ends; rank = λ T. 1 }

abbrev pub reference_not_full_words : StateWords
reference_not_full_words = record { ready = λ T. AreOrdered T.tokenize_state.label_starts; step = reference_not_full_step; ends = reference_not_full_ends; rank = λ T. 3 }

abbrev pub reference_collapsed_words : StateWords
reference_collapsed_words = record { ready = λ T. Unit {0}; step = reference_collapsed_step; ends = reference_collapsed_ends; rank = λ T. 2 }

abbrev pub reference_collapsed_open_words : StateWords
reference_collapsed_open_words = record { ready = IsOpen N.Reference; step = reference_collapsed_open_step; ends = reference_collapsed_open_ends; rank = λ T. 1 }

-- a part of what is said of these states, and of any other as it is given
abbrev pub said {ℓ} : {A : Type ℓ} → (StateWords → A) → (StateName → A) → StateName → A
said part other LabelEndStart = part start_words
said part other LabelEndAfter = part after_words
said part other LabelEndOk = part ok_words
said part other LabelEndNok = part nok_words
said part other LabelEndReferenceFull = part reference_full_words
said part other LabelEndReferenceFullAfter = part reference_full_after_words
said part other LabelEndReferenceFullMissing = part reference_full_missing_words
said part other LabelEndReferenceNotFull = part reference_not_full_words
said part other LabelEndReferenceCollapsed = part reference_collapsed_words
said part other LabelEndReferenceCollapsedOpen = part reference_collapsed_open_words
said part other s = other s

-- all of it
abbrev pub states : (StateName → StateWords) → StateName → StateWords
states other s = said (λ (w : StateWords). w) other s

-- the states of others that they call, and any other as it is given
abbrev pub called : (StateName → StateWords) → StateName → StateWords
called other LabelEndResourceStart = Resource.start_words
called other LabelStart = PartialLabel.start_words
called other s = other s

abbrev pub states_and_called : (StateName → StateWords) → StateName → StateWords
states_and_called other s = states (called other) s
