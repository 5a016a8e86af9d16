use Rattle.std.proofs.Common.{◌≡◌, length}
use Rattle.markdown_passes.specs.TrimmedData.{between, IsStretch}
use Rattle.markdown_passes.proofs.TrimWalks.{last_kept}
use Rattle.markdown_passes.proofs.partial_whitespace.kept_end.Given as goal

-- what is kept so far, and what the rest of the way makes of it
abbrev pub invariant-loop-to : goal.invariant-loop-to
invariant-loop-to l =
    IsStretch l.bytes l.point l.to × (last_kept l.kept (between l.bytes l.point l.to) ≡ last_kept l.fn.from (between l.bytes l.fn.from l.fn.to))

abbrev pub decreases-loop-to : goal.decreases-loop-to
decreases-loop-to l = length (between l.bytes l.point l.to)
