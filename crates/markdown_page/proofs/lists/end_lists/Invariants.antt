use Rattle.markdown_page.proofs.NextItems.{IsBack}
use Rattle.markdown_page.proofs.lists.end_lists.Given as goal

abbrev pub invariant-loop-index : goal.invariant-loop-index
invariant-loop-index l = IsBack l.rows l.initial.places.items l.index l.nexts.items l.places.items

abbrev pub decreases-loop-index : goal.decreases-loop-index
decreases-loop-index l = l.index
