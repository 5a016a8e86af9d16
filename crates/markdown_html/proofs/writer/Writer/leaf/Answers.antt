use Rattle.std.proofs.Common.{ap, arith}
use Rattle.markdown_html.specs.View.{page_of, state_of}
use Rattle.markdown_html.specs.EventWalk.{State}
use Rattle.markdown_html.proofs.WalkTree.{leaf-done}
use Rattle.markdown_html.proofs.writer.Writer.leaf.Goals as goal

pub returns-in_ok-push_leaf_between-in-Exit-clause-walk : goal.returns-in_ok-push_leaf_between-in-Exit-clause-walk
returns-in_ok-push_leaf_between-in-Exit-clause-walk c =
    let s : State = state_of c.args.self.now in
    leaf-done (page_of c.args.given.now) s _ c.args.role c.args.from c.args.events.now c.args.index c.behind_bare.result c.at-exit.result
    (omega (arith, c.if-index-len.false, c.len.ensures, c.requires.index)) c.at-exit.ensures c.in-Exit.is c.behind_bare.ensures
    (ap (λ out. record s { out = out }) c.in_ok-push_leaf_between-in-Exit.ensures)
