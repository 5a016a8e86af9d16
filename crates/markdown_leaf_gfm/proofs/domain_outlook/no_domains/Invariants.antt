use Rattle.std.proofs.Common.{length}
use Rattle.markdown_content.specs.Place.{ahead_at}
use Rattle.markdown_leaf_gfm.proofs.DomainOutlookLemmas.{Finding}
use Rattle.markdown_leaf_gfm.proofs.domain_outlook.no_domains.Given as goal

abbrev pub invariant-loop-code : goal.invariant-loop-code
invariant-loop-code l = Finding l.bytes l.cursor l.place l.places.items l.outlook

abbrev pub decreases-loop-code : goal.decreases-loop-code
decreases-loop-code l = length (ahead_at l.place)
