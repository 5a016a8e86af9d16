-- What the events of the cases have.
use Rattle.std.specs.Prelude.{ℕ, List}
use Rattle.markdown_event.specs.declared.event.Event.{Event}
use Rattle.markdown_attention.specs.RunsRead.{HaveRunPlaces}
use Rattle.markdown_attention.specs.RunEdits.{HaveRunEnds, HaveRunRoom}

-- the runs of these events are such as the edits of the pass ask for
pub record HaveRuns (bytes : List ℕ) (es : List Event) : Type 0 where
  pub places : HaveRunPlaces bytes es
  pub ends : HaveRunEnds es
  pub room : HaveRunRoom es
