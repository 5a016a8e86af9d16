use Rattle.std.proofs.Common.{◌≡◌, ◌+◌, ◌≤◌, length}
use Rattle.markdown_passes.specs.TrimmedData.{between, IsStretch}
use Rattle.markdown_passes.proofs.TrimWalks.{spaces_after}
use Rattle.markdown_passes.proofs.partial_whitespace.last_spaces.Given as goal

-- the spaces so far and the codes that are left are no more than all, and the rest of the way makes of them what all codes have
abbrev pub invariant-loop-to : goal.invariant-loop-to
invariant-loop-to l =
    IsStretch l.bytes l.point l.to
    × (l.spaces + length (between l.bytes l.point l.to) ≤ length (between l.bytes l.fn.from l.fn.to))
    × (spaces_after l.spaces (between l.bytes l.point l.to) ≡ spaces_after 0 (between l.bytes l.fn.from l.fn.to))

abbrev pub decreases-loop-to : goal.decreases-loop-to
decreases-loop-to l = length (between l.bytes l.point l.to)
