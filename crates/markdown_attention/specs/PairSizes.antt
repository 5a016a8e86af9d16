-- The sizes of the pairs of a run, as their closer or as their opener; and what the edits stand on.
use Rattle.std.specs.Prelude.{◌≡◌, ℕ, ◌+◌, ◌<◌, ◌≤◌, ◌^◌, List, [], length, map, slice_index_or}
use Rattle.std.specs.List.{All}
use Rattle.markdown_attention.specs.declared.attention.pairing.Pair.{Pair}
use Rattle.markdown_attention.specs.declared.attention.runs.Sequence.{Sequence}
use Rattle.markdown_event.specs.declared.event.Event.{Event}
use Rattle.markdown_attention.specs.RunContainers.{AreByCloser}
use Rattle.markdown_attention.specs.RunEvents.{total, marker_events}
use Rattle.markdown_attention.specs.RunEdits.{point_in, closed_sizes, opened_sizes}

abbrev pub sizes_of : List Pair → List ℕ
sizes_of pairs = map (λ p. p.size) pairs

-- of each run the sizes of the pairs whose opener it is
abbrev pub AreSizes : List Pair → List (List ℕ) → Type 0
AreSizes pairs sizes = (g : ℕ) → slice_index_or sizes g [] ≡ opened_sizes g pairs

-- the pairs whose closers are this run and those behind it
pub record AreRest (pairs : List Pair) (run : ℕ) (rest : List Pair) : Type 0 where
  pub later : All (λ p. run ≤ p.closer) rest
  pub order : AreByCloser rest
  pub sizes : (g : ℕ) → run ≤ g → closed_sizes g pairs ≡ closed_sizes g rest

-- there is room for a run's markers from its Enter on
pub record HasRoom (es : List Event) (pairs : List Pair) (backs : List (List ℕ)) (r : Sequence) : Type 0 where
  pub event : r.event < length es
  pub back : r.number < length backs
  pub column : (point_in es r.event).column + (total (closed_sizes r.number pairs) + r.remaining + total (slice_index_or backs r.number [])) < 2 ^ 64
  pub index : (point_in es r.event).index + (total (closed_sizes r.number pairs) + r.remaining + total (slice_index_or backs r.number [])) < 2 ^ 64

-- what comes for a run, by the pairs and by these sizes
abbrev pub added_for : List Event → List Pair → List (List ℕ) → Sequence → List Event
added_for es pairs backs r = marker_events r.marker (point_in es r.event) (closed_sizes r.number pairs) r.remaining (slice_index_or backs r.number [])

-- the same, by the pairs alone
pub record HasRoomFor (es : List Event) (count : ℕ) (pairs : List Pair) (r : Sequence) : Type 0 where
  pub event : r.event < length es
  pub number : r.number < count
  pub column : (point_in es r.event).column + (total (closed_sizes r.number pairs) + r.remaining + total (opened_sizes r.number pairs)) < 2 ^ 64
  pub index : (point_in es r.event).index + (total (closed_sizes r.number pairs) + r.remaining + total (opened_sizes r.number pairs)) < 2 ^ 64
