-- Events whose runs stand in order over a document.
use Rattle.std.specs.Prelude.{◌≡◌, ◌≢◌, ℕ, suc, ◌<◌, ◌≤◌, true, List, [], ◌∷◌, drop, None}
use Rattle.markdown_content.specs.Codes.{Code}
use Rattle.markdown_content.specs.Slices.{codes_between}
use Rattle.markdown_content.specs.DocumentWalk.{IsPoint}
use Rattle.markdown_event.specs.declared.event.Event.{Event}
use Rattle.markdown_event.specs.declared.event.Kind.TheVariants as Kind
use Rattle.markdown_event.specs.declared.event.Name.{Name}
use Rattle.markdown_attention.specs.OpenRuns.{IsMarker}
use Rattle.markdown_attention.specs.RunEdits.{point_in}
use Rattle.markdown_attention.specs.TokenWord.{HasMarker, begins_run}

-- one marker, once or more
pub record AreEqualMarkers (cs : List Code) : Type 0 where
  pub marker : ℕ
  pub is_marker : IsMarker marker
  pub some : cs ≢ []
  pub equal : HasMarker marker cs

-- behind the Enter of a run stands its Exit; neither has a link, both are places of the document, and between them stand equal markers
pub record IsRunOver (bytes : List ℕ) (enter exit : Event) : Type 0 where
  pub kind : exit.kind ≡ Kind.Exit
  pub name : exit.name ≡ Name.AttentionSequence
  pub enter_unlinked : enter.link ≡ None
  pub exit_unlinked : exit.link ≡ None
  pub begins : IsPoint bytes enter.point
  pub ends : IsPoint bytes exit.point
  pub markers : AreEqualMarkers (codes_between bytes enter.point exit.point)

abbrev pub StartsRun : List ℕ → List Event → Type 0
StartsRun bytes [] = ⊥
StartsRun bytes (enter ∷ []) = ⊥
StartsRun bytes (enter ∷ exit ∷ more) = IsRunOver bytes enter exit

-- each run is one, and begins where the runs before it have ended, or later
pub record HaveRunsInOrder (bytes : List ℕ) (events : List Event) : Type 0 where
  pub runs : (i : ℕ) → begins_run (drop i events) ≡ true → StartsRun bytes (drop i events)
  pub order : (i j : ℕ) → i < j → begins_run (drop i events) ≡ true → begins_run (drop j events) ≡ true
      → (point_in events (suc i)).index ≤ (point_in events j).index
