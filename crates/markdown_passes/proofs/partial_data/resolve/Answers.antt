use Rattle.std.proofs.Common.{arith}
use Rattle.markdown_passes.proofs.MergePassLaw.{few-merged}
use Rattle.markdown_passes.proofs.partial_data.resolve.Goals as goal

pub returns-then-len-le2-clause-merged : goal.returns-then-len-le2-clause-merged
returns-then-len-le2-clause-merged c t h e =
    few-merged t h c.args.tokenizer.now.events e (omega (arith, c.if-len-le2.true, c.len.ensures))
