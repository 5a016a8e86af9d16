use Rattle.std.proofs.Common.{◌≤◌, subst}
use Rattle.markdown_innermost.proofs.FirstInnermostEvent.{none-left}
use Rattle.markdown_innermost.proofs.leaf.first_exit.Goals as goal

pub returns-clause-none : goal.returns-clause-none
returns-clause-none c =
    none-left c.args.events.now c.loop-index.index c.loop-index.invariant.0
    (subst (λ n. n ≤ c.loop-index.index) c.len-index-end.ensures c.loop-index-test.false) c.loop-index.invariant.1
