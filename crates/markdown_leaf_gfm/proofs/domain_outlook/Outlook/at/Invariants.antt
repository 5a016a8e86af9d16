use Rattle.std.proofs.Common.{length}
use Rattle.markdown_content.specs.Place.{ahead_at}
use Rattle.markdown_leaf_gfm.proofs.DomainScanLemmas.{DomainSoFar}
use Rattle.markdown_leaf_gfm.proofs.domain_outlook.Outlook.at.Given as goal

abbrev pub invariant-loop-code : goal.invariant-loop-code
invariant-loop-code l = DomainSoFar l.bytes l.cursor l.place l.barred l.dots l.behind_mark

abbrev pub decreases-loop-code : goal.decreases-loop-code
decreases-loop-code l = length (ahead_at l.place)
