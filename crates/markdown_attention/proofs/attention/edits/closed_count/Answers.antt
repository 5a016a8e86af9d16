use Rattle.std.proofs.Common.{arith}
use Rattle.markdown_attention.specs.declared.attention.pairing.Pair.{Pair}
use Rattle.markdown_attention.proofs.ClosedPairs.{closed-more}
use Rattle.markdown_attention.proofs.attention.edits.closed_count.Goals as goal

pub loop-count-preserved : goal.loop-count-preserved
loop-count-preserved c =
    let no : Pair = record { opener = 0; closer = 0; size = 0 } in
    (omega (arith, c.loop-count-test.true), closed-more c.args.run c.args.pairs.now c.loop-count.count no c.loop-count-test.true c.if-pairs-count.true c.loop-count.invariant.1)
