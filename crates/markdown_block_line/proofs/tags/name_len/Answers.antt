use Rattle.std.proofs.Common.{◌∙◌, sym}
use Rattle.markdown_block_line.proofs.RestValues.{rest-values}
use Rattle.markdown_block_line.proofs.TagReadings.{name-none, name-reads}
use Rattle.markdown_block_line.proofs.tags.name_len.Goals as goal

pub returns-then-not-next_in-clause-read : goal.returns-then-not-next_in-clause-read
returns-then-not-next_in-clause-read c = λ cs h. name-none c.args.first c.args.more cs (sym (c.next_in.ensures.first cs h) ∙ c.if-not-next_in.true)

pub returns-clause-read : goal.returns-clause-read
returns-clause-read c = λ cs h. name-reads c.args.first c.args.more cs _ c.count_in.result (sym (c.next_in.ensures.first cs h) ∙ c.if-not-next_in.false) (rest-values (1) cs c.args.line.now h) c.count_in.ensures.count
