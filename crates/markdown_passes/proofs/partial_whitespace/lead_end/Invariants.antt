use Rattle.std.proofs.Common.{◌≡◌, length}
use Rattle.markdown_passes.specs.TrimmedData.{between, IsStretch, end_of_lead}
use Rattle.markdown_passes.proofs.partial_whitespace.lead_end.Given as goal

-- where the blank codes that are left end, the others end
abbrev pub invariant-loop-to : goal.invariant-loop-to
invariant-loop-to l =
    IsStretch l.bytes l.point l.to × (end_of_lead l.point (between l.bytes l.point l.to) ≡ end_of_lead l.fn.from (between l.bytes l.fn.from l.fn.to))

abbrev pub decreases-loop-to : goal.decreases-loop-to
decreases-loop-to l = length (between l.bytes l.point l.to)
