use Rattle.std.proofs.Common.{◌≡◌, ◌∙◌, ◌+◌, ◌-◌, take, drop, sym, arith}
use Rattle.markdown_block_line.proofs.RestValues.{rest-values}
use Rattle.markdown_model.specs.CodeTests.{values_of}
use Rattle.markdown_block_definitions.proofs.TextTrees.{part-values, later-firsts, label-none, label-open, label-blank, label-long, label-gap, label-reads, is-long, is-short}
use Rattle.markdown_block_definitions.proofs.texts.label_len.Goals as goal

pub returns-then-not-begins_with-clause-read : goal.returns-then-not-begins_with-clause-read
returns-then-not-begins_with-clause-read c = λ cs h b. label-none cs (c.begins_with.ensures.first cs h ∙ c.if-not-begins_with.true)

pub returns-in_default-clause-read : goal.returns-in_default-clause-read
returns-in_default-clause-read c = λ cs h b. label-open cs (c.begins_with.ensures.first cs h ∙ c.if-not-begins_with.false) (c.in_default.ensures.read (drop 1 cs) (rest-values 1 cs c.args.values.now h))

pub returns-then-is_blank_line-clause-read : goal.returns-then-is_blank_line-clause-read
returns-then-is_blank_line-clause-read c = λ cs h b.
    let n = c.in-Some.len in
    let r = rest-values 1 cs c.args.values.now h in
    label-blank cs (c.begins_with.ensures.first cs h ∙ c.if-not-begins_with.false) n (c.in-Some.ensures.read (drop 1 cs) r) (c.in-Some.ensures.closed (drop 1 cs) r)
    (sym (c.is_blank_line.ensures (take n (drop 1 cs)) (part-values cs c.args.values.now n _ h (omega arith))) ∙ c.if-is_blank_line.true)

pub returns-then-count-gt999-clause-read : goal.returns-then-count-gt999-clause-read
returns-then-count-gt999-clause-read c = λ cs h b.
    let n = c.in-Some.len in
    let r = rest-values 1 cs c.args.values.now h in
    let p : values_of (take n (drop 1 cs)) ≡ take (1 + n - 1) (drop 1 c.args.values.now) = part-values cs c.args.values.now n (1 + n - 1) h (omega arith) in
    label-long cs (c.begins_with.ensures.first cs h ∙ c.if-not-begins_with.false) n (c.in-Some.ensures.read (drop 1 cs) r) (c.in-Some.ensures.closed (drop 1 cs) r)
    (sym (c.is_blank_line.ensures (take n (drop 1 cs)) p) ∙ c.if-is_blank_line.false)
    (is-long _ c.count_characters-count.result (c.count_characters-count.ensures (take n (drop 1 cs)) p (later-firsts cs c.args.firsts.now n (1 + n - 1) b (omega arith))) c.if-count-gt999.true)

pub returns-then-not-has_no_blank_line-clause-read : goal.returns-then-not-has_no_blank_line-clause-read
returns-then-not-has_no_blank_line-clause-read c = λ cs h b.
    let n = c.in-Some.len in
    let r = rest-values 1 cs c.args.values.now h in
    let p : values_of (take n (drop 1 cs)) ≡ take (1 + n - 1) (drop 1 c.args.values.now) = part-values cs c.args.values.now n (1 + n - 1) h (omega arith) in
    label-gap cs (c.begins_with.ensures.first cs h ∙ c.if-not-begins_with.false) n (c.in-Some.ensures.read (drop 1 cs) r) (c.in-Some.ensures.closed (drop 1 cs) r)
    (sym (c.is_blank_line.ensures (take n (drop 1 cs)) p) ∙ c.if-is_blank_line.false)
    (is-short _ c.count_characters-count.result (c.count_characters-count.ensures (take n (drop 1 cs)) p (later-firsts cs c.args.firsts.now n (1 + n - 1) b (omega arith))) c.if-count-gt999.false)
    (c.has_no_blank_line.ensures (take (n + 1) (drop 1 cs)) (part-values cs c.args.values.now (n + 1) (1 + n + 1 - 1) h (omega arith)) ∙ c.if-not-has_no_blank_line.true)

pub returns-clause-read : goal.returns-clause-read
returns-clause-read c = λ cs h b.
    let n = c.in-Some.len in
    let r = rest-values 1 cs c.args.values.now h in
    let p : values_of (take n (drop 1 cs)) ≡ take (1 + n - 1) (drop 1 c.args.values.now) = part-values cs c.args.values.now n (1 + n - 1) h (omega arith) in
    label-reads cs (c.begins_with.ensures.first cs h ∙ c.if-not-begins_with.false) n (c.in-Some.ensures.read (drop 1 cs) r) (c.in-Some.ensures.closed (drop 1 cs) r)
    (sym (c.is_blank_line.ensures (take n (drop 1 cs)) p) ∙ c.if-is_blank_line.false)
    (is-short _ c.count_characters-count.result (c.count_characters-count.ensures (take n (drop 1 cs)) p (later-firsts cs c.args.firsts.now n (1 + n - 1) b (omega arith))) c.if-count-gt999.false)
    (c.has_no_blank_line.ensures (take (n + 1) (drop 1 cs)) (part-values cs c.args.values.now (n + 1) (1 + n + 1 - 1) h (omega arith)) ∙ c.if-not-has_no_blank_line.false)
