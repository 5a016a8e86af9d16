use Rattle.std.proofs.Common.{◌∙◌, ap, sym}
use Rattle.std.specs.Prelude.{if◌then◌else◌}
use Rattle.markdown_block_line.proofs.tags.slash_len.Goals as goal

pub returns-then-next_in-clause-count : goal.returns-then-next_in-clause-count
returns-then-next_in-clause-count c = λ cs h. sym (ap (λ b. if b then 1 else 0) (sym (c.next_in.ensures.first cs h) ∙ c.if-next_in.true))

pub returns-else-next_in-clause-count : goal.returns-else-next_in-clause-count
returns-else-next_in-clause-count c = λ cs h. sym (ap (λ b. if b then 1 else 0) (sym (c.next_in.ensures.first cs h) ∙ c.if-next_in.false))
