use Rattle.std.proofs.Common.{drop}
use Rattle.markdown_block_line.proofs.RestValues.{rest-values}
use Rattle.markdown_block_definitions.proofs.CodesAt.{rest-twice}
use Rattle.markdown_block_definitions.proofs.DefinitionReads.{titled-none, titled-not, titled-open, titled-reads}
use Rattle.markdown_block_definitions.proofs.definition.title_at.Goals as goal

pub returns-in_default-clause-read : goal.returns-in_default-clause-read
returns-in_default-clause-read c = λ cs h. titled-none cs (c.in_default.ensures.read cs h)

pub returns-in_default-title_len-clause-read : goal.returns-in_default-title_len-clause-read
returns-in_default-title_len-clause-read c = λ cs h. titled-not cs c.in-Some.start (c.in-Some.ensures.read cs h) (c.in_default-title_len.ensures.read (drop c.in-Some.start cs) (rest-values c.in-Some.start cs c.args.values.now h))

pub returns-in_default-line_end_len-clause-read : goal.returns-in_default-line_end_len-clause-read
returns-in_default-line_end_len-clause-read c = λ cs h.
    let s = c.in-Some.start in
    let n = c.in-Some-title_len.len in
    titled-open cs s (c.in-Some.ensures.read cs h) n (c.in-Some-title_len.ensures.read (drop s cs) (rest-values s cs c.args.values.now h)) (c.in_default-line_end_len.ensures.read (drop n (drop s cs)) (rest-twice s n cs c.args.values.now h))

pub returns-clause-read : goal.returns-clause-read
returns-clause-read c = λ cs h.
    let s = c.in-Some.start in
    let n = c.in-Some-title_len.len in
    titled-reads cs s (c.in-Some.ensures.read cs h) n (c.in-Some-title_len.ensures.read (drop s cs) (rest-values s cs c.args.values.now h)) c.in-Some-line_end_len.more (c.in-Some-line_end_len.ensures.read (drop n (drop s cs)) (rest-twice s n cs c.args.values.now h))
