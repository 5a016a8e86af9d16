-- The pieces so far, in front of those that the further events are.
use Rattle.std.proofs.Common.{◌≡◌, ◌++◌, ◌<◌}
use Rattle.markdown_model_laws.specs.LeafPieces.{leaf_pieces}
use Rattle.markdown_inline.specs.LastPiece.{with_last}
use Rattle.markdown_inline.proofs.LastPieceLemmas.{pieces_from}
use Rattle.markdown_inline.proofs.pieces.leaf_pieces.Given as goal

abbrev pub invariant-loop-index : goal.invariant-loop-index
invariant-loop-index l = (0 < l.index) × (l.pieces.items ++ with_last l.last (pieces_from l.index l.events) ≡ leaf_pieces l.events)
