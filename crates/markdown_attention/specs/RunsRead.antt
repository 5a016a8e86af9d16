-- Reading the runs off a list of events.
use Rattle.std.specs.Prelude.{◌≡◌, ℕ, suc, ◌+◌, ◌-◌, ◌<◌, ◌≤◌, Bool, true, false, ◌&&◌, not, if◌then◌else◌, List, [], ◌∷◌, ◌++◌, length, slice_index_or, Option, Some, None}
use Rattle.std.specs.Str.{IsCharBoundary}
use Rattle.markdown_content.specs.Codes.{Code}
use Rattle.markdown_content.specs.ListFunctions.{rest_of}
use Rattle.markdown_content.specs.declared.configuration.ParseOptions.{ParseOptions}
use Rattle.markdown_event.specs.declared.event.Event.{Event}
use Rattle.markdown_event.specs.declared.event.Kind.{Kind}
use Rattle.markdown_event.specs.declared.event.Name.{Name}
use Rattle.markdown_event.specs.declared.event.Name.TheVariants as N
use Rattle.markdown_event.specs.declared.event.Point.{Point}
use Rattle.markdown_model.specs.Runs.{before_run, after_run, is_flanking, may_act}
use Rattle.markdown_attention.specs.OpenRuns.{IsMarker}
use Rattle.markdown_attention.specs.NumberedPairs.{row_of}
use Rattle.markdown_attention.specs.declared.attention.reading.Text.{Text}
use Rattle.markdown_attention.specs.declared.attention.reading.Where.{Where}
use Rattle.markdown_attention.specs.declared.attention.runs.Sequence.{Sequence}

abbrev pub is_run : Name → Bool
is_run N.AttentionSequence = true
is_run _ = false

abbrev pub is_text : Name → Bool
is_text N.LabelText = true
is_text _ = false

abbrev pub is_enter : Kind → Bool
is_enter Kind.Enter = true
is_enter Kind.Exit = false

abbrev pub opens_run : Event → Bool
opens_run e = is_enter e.kind && is_run e.name

abbrev pub closes_run : Event → Bool
closes_run e = not (is_enter e.kind) && is_run e.name

abbrev pub opens_text : Event → Bool
opens_text e = is_enter e.kind && is_text e.name

-- A container: none for the whole content, or the text of a label, by the number of its Enter event and its number among the texts. These
-- are counted from 0, in the order in which they begin.

abbrev pub Container : Type 0
Container = Option Text

abbrev pub event_around : Container → Option ℕ
event_around None = None
event_around (Some text) = Some text.event

abbrev pub text_around : Container → Option ℕ
text_around None = None
text_around (Some text) = Some text.number

abbrev pub row_around : Container → ℕ
row_around k = row_of (text_around k)

-- the run from one place to another, in a content of these codes
abbrev pub sequence_at : ParseOptions → List ℕ → List Code → ℕ → ℕ → Container → Point → Point → Sequence
sequence_at options bytes content n i k from to =
    let marker = slice_index_or bytes from.index 0 in
    let b = before_run options bytes content from.index in
    let a = after_run options bytes content to.index in
    let left = is_flanking options marker b a in
    let right = is_flanking options marker a b in
    record {
      number = n;
      event = i;
      container = event_around k;
      text = text_around k;
      marker = marker;
      size = to.index - from.index;
      remaining = to.index - from.index;
      may_open = may_act options marker b left right;
      may_close = may_act options marker a right left;
    }

-- In which container events stand.

abbrev pub Around : Type 0
Around = Where

abbrev pub outermost : Where
outermost = record { container = None; outer = []; texts = 0 }

abbrev pub left_to : List Container → Container
left_to [] = None
left_to (k ∷ ks) = k

-- after the Enter of a text, which is event i
abbrev pub into_text : ℕ → Where → Where
into_text i w = record { container = Some (record { event = i; number = w.texts }); outer = w.container ∷ w.outer; texts = w.texts + 1 }

-- after its Exit
abbrev pub out_of_text : Where → Where
out_of_text w = record { container = left_to w.outer; outer = rest_of w.outer; texts = w.texts }

-- after event i
abbrev pub where_after : ℕ → Event → Where → Where
where_after i e w = if is_text e.name then (if is_enter e.kind then into_text i w else out_of_text w) else w

-- the run in this container that the first of these events, which is event i, begins
abbrev pub first_run : ParseOptions → List ℕ → List Code → ℕ → ℕ → Container → List Event → List Sequence
first_run options bytes content n i k [] = []
first_run options bytes content n i k (e ∷ []) = []
first_run options bytes content n i k (e ∷ x ∷ es) = if opens_run e then sequence_at options bytes content n i k e.point x.point ∷ [] else []

-- the runs of these events, numbered from n on
abbrev pub runs_from : ParseOptions → List ℕ → List Code → ℕ → ℕ → Where → List Event → List Sequence
runs_from options bytes content n i w [] = []
runs_from options bytes content n i w (e ∷ es) =
    let first = first_run options bytes content n i w.container (e ∷ es) in
    first ++ runs_from options bytes content (n + length first) (suc i) (where_after i e w) es

-- Of which events this is said: behind the Enter of a run stands another event, further on, and the two are between characters of the
-- document, the first before a marker.

pub record IsRunPlace (bytes : List ℕ) (from to : Point) : Type 0 where
  pub from_between : IsCharBoundary bytes from.index
  pub to_between : IsCharBoundary bytes to.index
  pub within : from.index < length bytes
  pub marker : IsMarker (slice_index_or bytes from.index 0)
  pub forward : from.index < to.index

abbrev pub EndsRun : List ℕ → Event → List Event → Type 0
EndsRun bytes e [] = ⊥
EndsRun bytes e (x ∷ es) = IsRunPlace bytes e.point x.point

abbrev pub FirstHasPlaces : List ℕ → List Event → Type 0
FirstHasPlaces bytes [] = Unit {0}
FirstHasPlaces bytes (e ∷ es) = opens_run e ≡ true → EndsRun bytes e es

abbrev pub HaveRunPlaces : List ℕ → List Event → Type 0
HaveRunPlaces bytes [] = Unit {0}
HaveRunPlaces bytes (e ∷ es) = FirstHasPlaces bytes (e ∷ es) × HaveRunPlaces bytes es
