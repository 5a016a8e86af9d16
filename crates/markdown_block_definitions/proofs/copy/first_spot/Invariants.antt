use Rattle.std.proofs.Common.{◌≡◌, ◌+◌, ◌-◌, ◌*◌, length}
use Rattle.markdown_content.specs.Codes.{codes_of}
use Rattle.markdown_content.specs.Content.{piece_codes}
use Rattle.markdown_block_definitions.specs.TextCopies.{IsSpot, codes_left, spot_place}
use Rattle.markdown_block_definitions.proofs.copy.first_spot.Given as goal

abbrev pub invariant-loop-spot : goal.invariant-loop-spot
invariant-loop-spot l = record { stands : IsSpot l.bytes l.spot; left : piece_codes (codes_of l.bytes) l.piece ≡ codes_left l.bytes l.piece (spot_place l.spot) }

abbrev pub decreases-loop-spot : goal.decreases-loop-spot
decreases-loop-spot l = 4 * length l.bytes - (4 * l.spot.index + l.spot.vs)
