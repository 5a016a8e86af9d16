use Rattle.std.proofs.Common.{◌∙◌, sym, drop}
use Rattle.markdown_block_line.proofs.RestValues.{rest-values}
use Rattle.markdown_block_line.proofs.TagReadings.{unquoted-none, unquoted-not, unquoted-reads}
use Rattle.markdown_block_line.proofs.tags.unquoted_len.Goals as goal

pub returns-in_default-clause-read : goal.returns-in_default-clause-read
returns-in_default-clause-read c = λ cs h. unquoted-none cs (c.in_default.ensures.read cs h)

pub returns-then-not-next_in-clause-read : goal.returns-then-not-next_in-clause-read
returns-then-not-next_in-clause-read c = λ cs h. unquoted-not cs c.in-Some.len (c.in-Some.ensures.read cs h) (sym (c.next_in.ensures.first (drop (c.in-Some.len) cs) (rest-values (c.in-Some.len) cs c.args.line.now h)) ∙ c.if-not-next_in.true)

pub returns-clause-read : goal.returns-clause-read
returns-clause-read c = λ cs h. unquoted-reads cs c.in-Some.len (c.in-Some.ensures.read cs h) (sym (c.next_in.ensures.first (drop (c.in-Some.len) cs) (rest-values (c.in-Some.len) cs c.args.line.now h)) ∙ c.if-not-next_in.false)
