use Rattle.std.proofs.Common.{◌∙◌, ◌++◌, ap, sym, arith, length}
use Rattle.std.proofs.lemmas.List.{take_all}
use Rattle.markdown_model.specs.CodeTests.{values_of}
use Rattle.markdown_block_line.proofs.RestValues.{values-length}
use Rattle.markdown_block_definitions.specs.TextReadings.{first_columns}
use Rattle.markdown_block_definitions.proofs.SaidTexts.{firsts-pushed}
use Rattle.markdown_block_definitions.proofs.front.push_firsts.Goals as goal
use Rattle.std.proofs.Common.{append-nil}

pub loop-index-init : goal.loop-index-init
loop-index-init c = λ cs h b. sym (append-nil c.args.text.now.items)

pub loop-index-preserved : goal.loop-index-preserved
loop-index-preserved c = λ cs h b.
    firsts-pushed cs c.args.values.now c.args.firsts.now c.loop-index.index _ _ c.loop-index.text.items _ c.args.text.now.items h b c.loop-index-test.true c.in_ok-push_first.ensures (c.loop-index.invariant cs h b)

pub returns : goal.returns
returns c = λ cs h b.
    c.loop-index.invariant cs h b ∙ ap (λ xs. c.args.text.now.items ++ values_of (first_columns xs)) (take_all c.loop-index.index cs (omega (arith, c.loop-index-test.false, values-length cs, ap length h)))
