-- The edit of one run, by its sizes; and the runs that one pair takes whole.
use Rattle.std.specs.Prelude.{◌≡◌, ℕ, ◌+◌, ◌<◌, ◌^◌, List, [], ◌∷◌, false}
use Rattle.markdown_event.specs.declared.event.Point.{Point}
use Rattle.markdown_engine_events.specs.declared.util.edit_map.Edit.{Edit}
use Rattle.markdown_attention.specs.declared.attention.edits.Sole.{Sole}
use Rattle.markdown_attention.specs.declared.attention.edits.Sole.TheVariants as S
use Rattle.markdown_attention.specs.declared.attention.runs.Sequence.{Sequence}
use Rattle.markdown_attention.specs.RunEvents.{total, marker_events}

-- of the sizes that pairs take of a run as their closer, of the markers that are left, and of the sizes that pairs take of it as their opener
abbrev pub IsSole : Sole → List ℕ → ℕ → List ℕ → Type 0
IsSole (S.Closing k) fronts kept backs = (fronts ≡ k ∷ []) × ((kept ≡ 0) × (backs ≡ []))
IsSole (S.Opening k) fronts kept backs = (fronts ≡ []) × ((kept ≡ 0) × (backs ≡ k ∷ []))
IsSole S.Neither fronts kept backs = Unit {0}

-- there is room for a run's markers from this place on, of which pairs take these sizes
pub record HasRoomFrom (p : Point) (fronts backs : List ℕ) (r : Sequence) : Type 0 where
  pub column : p.column + (total fronts + r.remaining + total backs) < 2 ^ 64
  pub index : p.index + (total fronts + r.remaining + total backs) < 2 ^ 64

-- the edit of a run that stands at this place, of which pairs take these sizes
abbrev pub edit_from : Point → List ℕ → List ℕ → Sequence → Edit
edit_from p fronts backs r =
    record {
      at = r.event;
      remove = 2;
      events = marker_events r.marker p fronts r.remaining backs;
      before = false;
    }
