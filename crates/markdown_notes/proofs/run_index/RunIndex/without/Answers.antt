-- No entry is in order.
use Rattle.std.proofs.Common.{sym, subst}
use Rattle.markdown_notes.specs.RunIndex.{AreEntriesInOrder}
use Rattle.markdown_notes.proofs.RunIndexOrder.{none-ordered}
use Rattle.markdown_notes.proofs.run_index.RunIndex.without.Goals as goal

pub invariant_of-result : goal.invariant_of-result
invariant_of-result c = subst AreEntriesInOrder (sym c.new.ensures.items) none-ordered
