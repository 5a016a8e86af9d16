use Rattle.std.proofs.Common.{arith}
use Rattle.markdown_block_definitions.proofs.LineCounts.{count-more, count-over}
use Rattle.markdown_block_definitions.proofs.texts.count_characters.Goals as goal

pub loop-len-init : goal.loop-len-init
loop-len-init c = record { few = omega arith; read = λ cs h b. omega arith }

pub loop-len-preserved : goal.loop-len-preserved
loop-len-preserved c = record {
  few = omega (arith, c.loop-len.invariant.few, c.count_code-more.ensures.within);
  read = λ cs h b. count-more cs c.args.values.now c.args.firsts.now c.loop-len.len _ c.loop-len.count c.count_code-more.result.0 _ c.loop-len.indented c.count_code-more.result.1 h b c.loop-len-test.true c.count_code-more.ensures.count (c.loop-len.invariant.read cs h b);
}

pub returns : goal.returns
returns c = λ cs h b. count-over cs c.args.values.now c.loop-len.len c.loop-len.count c.loop-len.indented h c.loop-len-test.false (c.loop-len.invariant.read cs h b)
