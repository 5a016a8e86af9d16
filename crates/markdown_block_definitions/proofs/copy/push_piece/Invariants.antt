use Rattle.std.proofs.Common.{◌+◌, ◌-◌, ◌*◌, length}
use Rattle.markdown_block_definitions.proofs.TextPushes.{IsPushed}
use Rattle.markdown_block_definitions.proofs.copy.push_piece.Given as goal

abbrev pub invariant-loop-spot : goal.invariant-loop-spot
invariant-loop-spot l = record { pushed : IsPushed l.bytes l.piece l.initial.values.items l.initial.firsts.items l.values.items l.firsts.items l.spot }

abbrev pub decreases-loop-spot : goal.decreases-loop-spot
decreases-loop-spot l = 4 * length l.bytes - (4 * l.spot.index + l.spot.vs)
