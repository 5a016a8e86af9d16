-- the place past some codes
use Rattle.std.proofs.Common.{◌≡◌, List, [], ◌∷◌, ◌++◌, refl, ap, ◌∙◌}
use Rattle.markdown_content.specs.Codes.{Code, stop_of}
use Rattle.markdown_content.specs.ListFunctions.{rest_of}
use Rattle.markdown_engine.specs.PastTree.{moved_by}
use Rattle.markdown_content.specs.Place.{Place, moved, ahead_at, exit_point}
use Rattle.markdown_event.specs.declared.event.Point.{Point}
use Rattle.markdown_content.proofs.PlaceRules.{ahead-moved}
use Rattle.markdown_content.proofs.PlaceRules.{exit_moved}

-- the codes ahead past some of them
pub ahead-moved_by : (cs rest : List Code) (p : Place) → ahead_at p ≡ cs ++ rest → ahead_at (moved_by cs p) ≡ rest
ahead-moved_by [] rest p e = e
ahead-moved_by (c ∷ cs) rest p e = ahead-moved_by cs rest (moved p) (ahead-moved p ∙ ap rest_of e)

-- past some codes an event ends where the last of them ends
pub stop-moved : (q : Point) (c : Code) (cs rest : List Code) (p : Place) → ahead_at p ≡ (c ∷ cs) ++ rest →
    exit_point (moved_by (c ∷ cs) p) ≡ stop_of q (c ∷ cs)
stop-moved q c [] rest p e = exit_moved p c rest e
stop-moved q c (d ∷ cs) rest p e = stop-moved c.stop d cs rest (moved p) (ahead-moved p ∙ ap rest_of e)

pub moved_by-append : (xs ys : List Code) (p : Place) → moved_by (xs ++ ys) p ≡ moved_by ys (moved_by xs p)
moved_by-append [] ys p = refl
moved_by-append (x ∷ xs) ys p = moved_by-append xs ys (moved p)
