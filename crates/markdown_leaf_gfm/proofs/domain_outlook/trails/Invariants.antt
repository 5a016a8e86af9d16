use Rattle.std.proofs.Common.{length}
use Rattle.markdown_content.specs.Place.{ahead_at}
use Rattle.markdown_leaf_gfm.proofs.TrailScans.{Looking}
use Rattle.markdown_leaf_gfm.proofs.domain_outlook.trails.Given as goal

abbrev pub invariant-loop-code : goal.invariant-loop-code
invariant-loop-code l = Looking l.bytes l.cursor l.name l.place

abbrev pub decreases-loop-code : goal.decreases-loop-code
decreases-loop-code l = length (ahead_at l.place)
