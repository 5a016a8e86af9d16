use Rattle.std.proofs.Common.{◌∙◌, length, ap, arith}
use Rattle.markdown_block_line.proofs.RestValues.{values-length}
use Rattle.markdown_block_definitions.proofs.TextTrees.{destination-literal, raw-none, raw-empty, raw-reads}
use Rattle.markdown_block_definitions.proofs.destinations.destination_len.Goals as goal

pub returns-then-begins_with-clause-read : goal.returns-then-begins_with-clause-read
returns-then-begins_with-clause-read c = λ cs h. destination-literal cs (c.begins_with.ensures.first cs h ∙ c.if-begins_with.true) _ (c.literal_len.ensures.read cs h)

pub returns-then-len-eq0-clause-read : goal.returns-then-len-eq0-clause-read
returns-then-len-eq0-clause-read c = λ cs h. raw-empty cs (c.begins_with.ensures.first cs h ∙ c.if-begins_with.false) c.in-Some.len (c.in-Some.ensures.read cs h) c.if-len-eq0.true

pub returns-else-len-eq0-clause-read : goal.returns-else-len-eq0-clause-read
returns-else-len-eq0-clause-read c = λ cs h. raw-reads cs (c.begins_with.ensures.first cs h ∙ c.if-begins_with.false) c.in-Some.len (c.in-Some.ensures.read cs h) c.if-len-eq0.false (omega (arith, c.in-Some.ensures.within, values-length cs, ap length h))

pub returns-in-None-clause-read : goal.returns-in-None-clause-read
returns-in-None-clause-read c = λ cs h. raw-none cs (c.begins_with.ensures.first cs h ∙ c.if-begins_with.false) (c.in-None.ensures.read cs h)
