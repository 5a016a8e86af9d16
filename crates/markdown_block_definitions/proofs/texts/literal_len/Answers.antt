use Rattle.std.proofs.Common.{◌∙◌, drop}
use Rattle.markdown_block_line.proofs.RestValues.{rest-values}
use Rattle.markdown_block_definitions.proofs.TextTrees.{literal-none, literal-open, literal-reads}
use Rattle.markdown_block_definitions.proofs.texts.literal_len.Goals as goal

pub returns-then-not-begins_with-clause-read : goal.returns-then-not-begins_with-clause-read
returns-then-not-begins_with-clause-read c = λ cs h. literal-none cs (c.begins_with.ensures.first cs h ∙ c.if-not-begins_with.true)

pub returns-in_default-clause-read : goal.returns-in_default-clause-read
returns-in_default-clause-read c = λ cs h. literal-open cs (c.begins_with.ensures.first cs h ∙ c.if-not-begins_with.false) (c.in_default.ensures.read (drop 1 cs) (rest-values 1 cs c.args.values.now h))

pub returns-clause-read : goal.returns-clause-read
returns-clause-read c = λ cs h.
    let n = c.in-Some.len in
    let r = rest-values 1 cs c.args.values.now h in
    literal-reads cs (c.begins_with.ensures.first cs h ∙ c.if-not-begins_with.false) n (c.in-Some.ensures.read (drop 1 cs) r) (c.in-Some.ensures.closed (drop 1 cs) r)
