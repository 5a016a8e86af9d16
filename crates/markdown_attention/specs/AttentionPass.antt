-- What the pass leaves of a list of events, and of how many runs it is said.
use Rattle.std.specs.Prelude.{◌≡◌, ℕ, ◌+◌, ◌*◌, ◌^◌, ◌<◌, ◌≤◌, List, [], length, IsUtf8}
use Rattle.std.specs.List.{count_by}
use Rattle.markdown_engine_events.specs.Edits.{edited}
use Rattle.markdown_content.specs.Tree.{Forest}
use Rattle.markdown_content.specs.declared.configuration.ParseOptions.{ParseOptions}
use Rattle.markdown_event.specs.declared.event.Event.{Event}
use Rattle.markdown_event.specs.declared.event.Point.{Point}
use Rattle.markdown_engine.specs.declared.tokenizer.Tokenizer.{Tokenizer}
use Rattle.markdown_engine_events.specs.declared.util.edit_map.Edit.{Edit}
use Rattle.markdown_model.specs.InlineTree.{pair_count, probe_bound, list_probe_bound}
use Rattle.markdown_model.specs.Setting.{Setting}
use Rattle.markdown_attention.specs.RunContainers.{ArePairLists, ArePairsWithin, AreTakenOnce}
use Rattle.markdown_attention.specs.RunsOfEvents.{runs_of_events}
use Rattle.markdown_attention.specs.NumberedPairs.{markers_left}
use Rattle.markdown_attention.specs.RunsRead.{HaveRunPlaces}
use Rattle.markdown_attention.specs.PairScan.{AreRunsAfter}
use Rattle.markdown_attention.specs.declared.attention.pairing.Pair.{Pair}
use Rattle.markdown_attention.specs.declared.attention.runs.Sequence.{Sequence}
use Rattle.markdown_attention.specs.RunEvents.{marker_events}
use Rattle.markdown_attention.specs.RunEdits.{edits_by, closed_sizes, opened_sizes, left_of, point_in, HaveRunEnds, HaveRunRoom}

-- the runs are so few that their sizes can be added
pub record IsSmall (list : List Sequence) : Type 0 where
  pub markers : markers_left list < 2 ^ 63
  pub count : length list < 2 ^ 63

-- when the pass may be called: no edit is left, and the runs of the events stand at places of the document, are few, and have room for what comes in
-- their stead
pub record MayPair (T : Tokenizer) : Type 0 where
  pub map : T.map ≡ []
  pub utf8 : IsUtf8 T.parse_state.now.bytes.now
  pub places : HaveRunPlaces T.parse_state.now.bytes.now T.events
  pub ends : HaveRunEnds T.events
  pub room : HaveRunRoom T.events
  pub small : IsSmall (runs_of_events T)

-- what comes for a run of these: the brackets of its pairs, and data over the markers that they leave
abbrev pub comes_for : (ℕ → Point) → List Sequence → List Pair → Sequence → List Event
comes_for at list pairs r = marker_events r.marker (at r.event) (closed_sizes r.number pairs) (left_of list pairs r.number) (opened_sizes r.number pairs)

-- one edit for each run of these events, by the pairs
abbrev pub grouping : List Event → List Sequence → List Pair → List Edit
grouping es list pairs = edits_by (comes_for (point_in es) list pairs) list

-- what pairing leaves: these pairs, the runs as they stand after them, and the number of looks
pub record IsPairing (options : ParseOptions) (list fin : List Sequence) (pairs : List Pair) (probes : ℕ) : Type 0 where
  pub lists : ArePairLists options list pairs
  pub within : ArePairsWithin list pairs
  pub once : AreTakenOnce list pairs
  pub left : AreRunsAfter list fin pairs
  pub at_least : length pairs ≤ probes
  pub at_most : probes ≤ 6 * count_by (λ r. r.may_open) list + count_by (λ r. r.may_close) list + 7 * length pairs
  pub scan : probes ≤ (length list + length pairs) * length list

-- `after` is left of the events `before`, in which these runs stand: of each container its pair list as groups and what is left of its
-- runs as data; it took so many looks at earlier runs
pub record IsGrouped (options : ParseOptions) (list : List Sequence) (before after : List Event) (probes : ℕ) : Type 0 where
  pub pairs : List Pair
  pub lists : ArePairLists options list pairs
  pub within : ArePairsWithin list pairs
  pub once : AreTakenOnce list pairs
  pub events : after ≡ edited (grouping before list pairs) before
  pub at_least : length pairs ≤ probes
  pub at_most : probes ≤ 6 * count_by (λ r. r.may_open) list + count_by (λ r. r.may_close) list + 7 * length pairs
  pub scan : probes ≤ (length list + length pairs) * length list

-- so many looks are within the bounds of a tree of labels
pub record IsProbed (s : Setting) (t : Forest) (probes : ℕ) : Type 0 where
  pub at_least : pair_count s t ≤ probes
  pub at_most : probes ≤ list_probe_bound s t
  pub scan : probes ≤ probe_bound s t
