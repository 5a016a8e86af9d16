use Rattle.std.proofs.Common.{◌∙◌, ◌+◌, sym, drop}
use Rattle.markdown_block_line.proofs.RestValues.{rest-values}
use Rattle.markdown_block_line.proofs.TagReadings.{quoted-none, quoted-open, quoted-reads}
use Rattle.markdown_block_line.proofs.tags.quoted_len.Goals as goal

pub returns-then-not-next_in-clause-read : goal.returns-then-not-next_in-clause-read
returns-then-not-next_in-clause-read c = λ cs h. quoted-none c.args.quote cs (sym (c.next_in.ensures.first cs h) ∙ c.if-not-next_in.true)

pub returns-then-not-next_in-2-clause-read : goal.returns-then-not-next_in-2-clause-read
returns-then-not-next_in-2-clause-read c = λ cs h. quoted-open c.args.quote cs _ c.count_in-len.result (sym (c.next_in.ensures.first cs h) ∙ c.if-not-next_in.false) (rest-values (1) cs c.args.line.now h) c.count_in-len.ensures.count (sym (c.next_in-2.ensures.first (drop (1 + c.count_in-len.result) cs) (rest-values (1 + c.count_in-len.result) cs c.args.line.now h)) ∙ c.if-not-next_in-2.true)

pub returns-clause-read : goal.returns-clause-read
returns-clause-read c = λ cs h. quoted-reads c.args.quote cs _ c.count_in-len.result (sym (c.next_in.ensures.first cs h) ∙ c.if-not-next_in.false) (rest-values (1) cs c.args.line.now h) c.count_in-len.ensures.count (sym (c.next_in-2.ensures.first (drop (1 + c.count_in-len.result) cs) (rest-values (1 + c.count_in-len.result) cs c.args.line.now h)) ∙ c.if-not-next_in-2.false)
