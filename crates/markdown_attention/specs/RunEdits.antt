-- The edits of the pass: one for each run, and of which events they can be made.
use Rattle.std.specs.Prelude.{◌≡◌, ℕ, zero, suc, ◌-◌, ◌^◌, ◌<◌, true, false, ◌==◌, if◌then◌else◌, List, [], ◌∷◌, None}
use Rattle.markdown_content.specs.Codes.{document_start}
use Rattle.markdown_event.specs.declared.event.Event.{Event}
use Rattle.markdown_event.specs.declared.event.Point.{Point}
use Rattle.markdown_engine_events.specs.declared.util.edit_map.Edit.{Edit}
use Rattle.markdown_attention.specs.NumberedPairs.{row_of, run_at, left, pairs_in}
use Rattle.markdown_attention.specs.RunsRead.{opens_run, closes_run}
use Rattle.markdown_attention.specs.declared.attention.pairing.Pair.{Pair}
use Rattle.markdown_attention.specs.declared.attention.runs.Sequence.{Sequence}
use Rattle.markdown_attention.specs.RunEvents.{marker_events, shifted}

-- What pairs take of run g, as its closer and as its opener, in order.

abbrev pub closed_sizes : ℕ → List Pair → List ℕ
closed_sizes g [] = []
closed_sizes g (p ∷ ps) = if p.closer == g then p.size ∷ closed_sizes g ps else closed_sizes g ps

abbrev pub opened_sizes : ℕ → List Pair → List ℕ
opened_sizes g [] = []
opened_sizes g (p ∷ ps) = if p.opener == g then p.size ∷ opened_sizes g ps else opened_sizes g ps

-- what they leave of it
abbrev pub left_of : List Sequence → List Pair → ℕ → ℕ
left_of list pairs g = left list (pairs_in list (row_of (run_at list g).text) pairs) g

-- an edit for each run: its two events go, and these come
abbrev pub edits_by : (Sequence → List Event) → List Sequence → List Edit
edits_by comes [] = []
edits_by comes (r ∷ rs) = record { at = r.event; remove = 2; events = comes r; before = false } ∷ edits_by comes rs

-- the events of a run as it stands after pairing; `at` tells where an event stands
abbrev pub grouped_events : (ℕ → Point) → List Pair → Sequence → List Event
grouped_events at pairs r = marker_events r.marker (at r.event) (closed_sizes r.number pairs) r.remaining (opened_sizes r.number pairs)

abbrev pub run_edits : (ℕ → Point) → List Pair → List Sequence → List Edit
run_edits at pairs rs = edits_by (grouped_events at pairs) rs

-- where event i stands
abbrev pub point_in : List Event → ℕ → Point
point_in [] i = document_start
point_in (e ∷ es) zero = e.point
point_in (e ∷ es) (suc i) = point_in es i

-- Of which events the edits can be made: behind the Enter of a run stands its Exit. Neither carries a link, and the Exit stands as many
-- columns after the Enter as bytes.

abbrev pub EndsRunAt : Event → List Event → Type 0
EndsRunAt e [] = ⊥
EndsRunAt e (x ∷ es) = (x.link ≡ None) × (x.point ≡ shifted e.point (x.point.index - e.point.index)) × (closes_run x ≡ true)

abbrev pub FirstHasEnds : Event → List Event → Type 0
FirstHasEnds e es = opens_run e ≡ true → (e.link ≡ None) × EndsRunAt e es

abbrev pub HaveRunEnds : List Event → Type 0
HaveRunEnds [] = Unit {0}
HaveRunEnds (e ∷ es) = FirstHasEnds e es × HaveRunEnds es

-- and that second one stands where numbers fit

abbrev pub FitsAt : List Event → Type 0
FitsAt [] = ⊥
FitsAt (x ∷ es) = (x.point.column < 2 ^ 64) × (x.point.index < 2 ^ 64)

abbrev pub HaveRunRoom : List Event → Type 0
HaveRunRoom [] = Unit {0}
HaveRunRoom (e ∷ es) = (opens_run e ≡ true → FitsAt es) × HaveRunRoom es
