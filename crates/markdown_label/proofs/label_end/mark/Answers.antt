-- At a start that is marked already, all are marked; each that is passed is there.
use Rattle.std.proofs.Common.{sym, ◌∙◌, arith}
use Rattle.markdown_label.proofs.MarkedStarts.{marked-from}
use Rattle.markdown_label.proofs.label_end.mark.Goals as goal

-- src/label_end.rt:92:13
pub returns-then-start : goal.returns-then-start
returns-then-start c =
    sym (c.loop-depth.invariant.0 ∙ marked-from c.loop-depth.starts c.loop-depth.depth c.at-start.result.now c.at-start.ensures c.if-start.true c.loop-depth.invariant.1.0)

pub at-start-requires : goal.at-start-requires
at-start-requires c = omega (arith, c.loop-depth-test.true, c.len-depth-end.ensures, c.loop-depth.invariant.1.1)

pub put-requires : goal.put-requires
put-requires c = omega (arith, c.loop-depth-test.true, c.len-depth-end.ensures, c.loop-depth.invariant.1.1)
