use Rattle.std.proofs.Common.{◌∙◌, ◌+◌, sym, drop}
use Rattle.markdown_block_line.proofs.RestValues.{rest-values}
use Rattle.markdown_block_line.proofs.TagReadings.{spans-slash, blanks-first, end-none, end-reads}
use Rattle.markdown_block_line.proofs.tags.tag_end_len.Goals as goal

pub returns-then-not-next_in-clause-read : goal.returns-then-not-next_in-clause-read
returns-then-not-next_in-clause-read c = λ cs h. end-none cs c.count_in-spaces.result (c.count_in-spaces.result + c.slash_len.result) (blanks-first cs _ c.count_in-spaces.result h c.count_in-spaces.ensures.count) (spans-slash cs c.count_in-spaces.result c.slash_len.result (c.slash_len.ensures.count (drop c.count_in-spaces.result cs) (rest-values (c.count_in-spaces.result) cs c.args.line.now h))) (sym (c.next_in.ensures.first (drop (c.count_in-spaces.result + c.slash_len.result) cs) (rest-values (c.count_in-spaces.result + c.slash_len.result) cs c.args.line.now h)) ∙ c.if-not-next_in.true)

pub returns-clause-read : goal.returns-clause-read
returns-clause-read c = λ cs h. end-reads cs c.count_in-spaces.result (c.count_in-spaces.result + c.slash_len.result) (blanks-first cs _ c.count_in-spaces.result h c.count_in-spaces.ensures.count) (spans-slash cs c.count_in-spaces.result c.slash_len.result (c.slash_len.ensures.count (drop c.count_in-spaces.result cs) (rest-values (c.count_in-spaces.result) cs c.args.line.now h))) (sym (c.next_in.ensures.first (drop (c.count_in-spaces.result + c.slash_len.result) cs) (rest-values (c.count_in-spaces.result + c.slash_len.result) cs c.args.line.now h)) ∙ c.if-not-next_in.false)
