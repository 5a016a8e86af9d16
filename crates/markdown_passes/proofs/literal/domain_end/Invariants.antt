use Rattle.std.proofs.Common.{◌≡◌, length}
use Rattle.markdown_passes.specs.TrimmedData.{between, IsStretch}
use Rattle.markdown_passes.specs.EmailScan.{domain_end}
use Rattle.markdown_passes.proofs.EmailDomains.{domain_on}
use Rattle.markdown_passes.proofs.literal.domain_end.Given as goal

-- the codes that are left go on with the domain as all codes make it
abbrev pub invariant-loop-letter : goal.invariant-loop-letter
invariant-loop-letter l =
    IsStretch l.bytes l.point l.to × (domain_on l.slashes l.dot l.letter l.point (between l.bytes l.point l.to) ≡ domain_end l.slashes l.fn.from (between l.bytes l.fn.from l.to))

abbrev pub decreases-loop-letter : goal.decreases-loop-letter
decreases-loop-letter l = length (between l.bytes l.point l.to)
