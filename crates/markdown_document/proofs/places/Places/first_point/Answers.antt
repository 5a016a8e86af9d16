use Rattle.std.proofs.Common.{◌≡◌, ℕ, List, subst}
use Rattle.markdown_event.specs.declared.event.Point.{Point}
use Rattle.markdown_content.specs.Codes.{place_of}
use Rattle.markdown_content.specs.KnownPlaces.{first_place}
use Rattle.markdown_content.specs.PlaceInDocument.{first_point}
use Rattle.markdown_content.specs.DocumentWalk.{IsPoint}
use Rattle.markdown_content.proofs.KnownPlacesLemmas.{first-empty, first-some}
use Rattle.markdown_document.proofs.places.Places.first_point.Goals as goal

pub returns-then-is_empty : goal.returns-then-is_empty
returns-then-is_empty c = first-empty c.args.self.now c.args.pieces.now c.is_empty.result c.is_empty.ensures c.if-is_empty.true

pub returns : goal.returns
returns c =
    let p : Point = c.in_ok-stretch.stretch.point in
    subst (λ (b : List ℕ). IsPoint b p × (p ≡ first_point b c.args.pieces.now) × (place_of p ≡ first_place (place_of p) c.args.pieces.now)) c.self.view_is
    (first-some c.self.inside.bytes.now c.args.pieces.now (record { start = (0, 0); end = (0, 0) }) c.is_empty.result c.before-2.result c.in_ok-stretch.stretch c.is_empty.ensures c.if-is_empty.false c.in_ok-stretch.ensures)
