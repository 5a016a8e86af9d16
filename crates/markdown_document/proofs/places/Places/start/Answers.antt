use Rattle.std.proofs.Common.{◌≡◌, true, ℕ, List, sym, subst}
use Rattle.markdown_content.specs.Content.{are_pieces}
use Rattle.markdown_content.proofs.LaterPieces.{first_place}
use Rattle.markdown_document.proofs.places.Places.start.Goals as goal

pub walk_to-point-requires-clause-is_place : goal.walk_to-point-requires-clause-is_place
walk_to-point-requires-clause-is_place c =
    first_place c.self.inside.bytes.now c.args.pieces.now (record { start = (0, 0); end = (0, 0) }) c.is_empty.result (subst (λ (b : List ℕ). are_pieces b c.args.pieces.now ≡ true) (sym c.self.view_is) c.requires.in_order) c.is_empty.ensures c.if-is_empty.false
