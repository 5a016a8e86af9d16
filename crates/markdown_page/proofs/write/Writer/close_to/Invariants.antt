use Rattle.std.proofs.Common.{ℕ, ◌≤◌, Option}
use Rattle.markdown_page.specs.GivenPage.{setting_of, page_of}
use Rattle.markdown_page.specs.PlacedTree.{PlacedTree}
use Rattle.markdown_page.specs.WriterStates.{IsWrittenSoFar, depth}
use Rattle.markdown_page.proofs.write.Writer.close_to.Given as goal

abbrev pub invariant-loop-self : goal.invariant-loop-self
invariant-loop-self l = record {
  within : l.count ≤ depth l.self;
  written : (limit : Option ℕ) (t : PlacedTree) → IsWrittenSoFar (setting_of l.given) (page_of l.given) limit t l.initial.self → IsWrittenSoFar (setting_of l.given) (page_of l.given) limit t l.self;
}

abbrev pub decreases-loop-self : goal.decreases-loop-self
decreases-loop-self l = depth l.self
