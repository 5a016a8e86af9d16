use Rattle.std.proofs.Common.{◌∙◌, ◌+◌, take, drop, arith}
use Rattle.markdown_block_line.proofs.RestValues.{rest-values}
use Rattle.markdown_block_definitions.proofs.TextTrees.{part-values, title-none, title-open, title-gap, title-reads}
use Rattle.markdown_block_definitions.proofs.texts.title_between_len.Goals as goal

pub returns-then-not-begins_with-clause-read : goal.returns-then-not-begins_with-clause-read
returns-then-not-begins_with-clause-read c = λ cs h. title-none c.args.both c.args.opener c.args.closer cs (c.begins_with.ensures.first cs h ∙ c.if-not-begins_with.true)

pub returns-in_default-clause-read : goal.returns-in_default-clause-read
returns-in_default-clause-read c = λ cs h. title-open c.args.both c.args.opener c.args.closer cs (c.begins_with.ensures.first cs h ∙ c.if-not-begins_with.false) (c.in_default.ensures.read (drop 1 cs) (rest-values 1 cs c.args.values.now h))

pub returns-then-not-has_no_blank_line-clause-read : goal.returns-then-not-has_no_blank_line-clause-read
returns-then-not-has_no_blank_line-clause-read c = λ cs h.
    let n = c.in-Some.len in
    let r = rest-values 1 cs c.args.values.now h in
    title-gap c.args.both c.args.opener c.args.closer cs (c.begins_with.ensures.first cs h ∙ c.if-not-begins_with.false) n (c.in-Some.ensures.read (drop 1 cs) r) (c.in-Some.ensures.closed (drop 1 cs) r)
    (c.has_no_blank_line.ensures (take (n + 1) (drop 1 cs)) (part-values cs c.args.values.now (n + 1) _ h (omega arith)) ∙ c.if-not-has_no_blank_line.true)

pub returns-clause-read : goal.returns-clause-read
returns-clause-read c = λ cs h.
    let n = c.in-Some.len in
    let r = rest-values 1 cs c.args.values.now h in
    title-reads c.args.both c.args.opener c.args.closer cs (c.begins_with.ensures.first cs h ∙ c.if-not-begins_with.false) n (c.in-Some.ensures.read (drop 1 cs) r) (c.in-Some.ensures.closed (drop 1 cs) r)
    (c.has_no_blank_line.ensures (take (n + 1) (drop 1 cs)) (part-values cs c.args.values.now (n + 1) _ h (omega arith)) ∙ c.if-not-has_no_blank_line.false)
