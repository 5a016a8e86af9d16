use Rattle.markdown_innermost.proofs.FirstInnermostEvent.{first-in-order, others-in-order}
use Rattle.markdown_innermost.proofs.leaf.LeavesIterator.next.Goals as goal

pub lend-leaf-requires-clause-places : goal.lend-leaf-requires-clause-places
lend-leaf-requires-clause-places c =
    first-in-order c.self.inside.bytes.now c.self.inside.events c.in_ok-exit.exit _ _ c.in_ok-exit.ensures.found c.at.ensures c.at-2.ensures c.self.invariant.1

pub invariant_of-self : goal.invariant_of-self
invariant_of-self c =
    (c.self.invariant.0, others-in-order c.self.inside.bytes.now c.self.inside.events c.slice-self-inside.result c.in_ok-exit.exit _ c.in_ok-exit.ensures.found c.len.ensures c.slice-self-inside.ensures c.self.invariant.1)
