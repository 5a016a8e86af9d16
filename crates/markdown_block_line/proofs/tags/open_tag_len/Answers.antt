use Rattle.std.proofs.Common.{◌∙◌, ◌+◌, sym, drop}
use Rattle.markdown_model.specs.Grammar.{repeatedly}
use Rattle.markdown_model.specs.HtmlText.{tag_name}
use Rattle.markdown_block_line.specs.LineTags.{spaced_attribute, tag_end}
use Rattle.markdown_block_line.proofs.RestValues.{rest-values}
use Rattle.markdown_block_line.proofs.TagReadings.{spans-rest, open-none, open-nameless, open-unended, open-reads}
use Rattle.markdown_block_line.proofs.tags.open_tag_len.Goals as goal

pub returns-then-not-next_in-clause-read : goal.returns-then-not-next_in-clause-read
returns-then-not-next_in-clause-read c = λ cs h. open-none cs (sym (c.next_in.ensures.first cs h) ∙ c.if-not-next_in.true)

pub returns-in_default-clause-read : goal.returns-in_default-clause-read
returns-in_default-clause-read c = λ cs h. open-nameless cs (sym (c.next_in.ensures.first cs h) ∙ c.if-not-next_in.false) (c.in_default.ensures.read (drop 1 cs) (rest-values (1) cs c.args.line.now h))

pub returns-in_default-tag_end_len-clause-read : goal.returns-in_default-tag_end_len-clause-read
returns-in_default-tag_end_len-clause-read c = λ cs h. open-unended cs (1 + c.in-Some.name) (1 + c.in-Some.name + c.attributes_len.result) (sym (c.next_in.ensures.first cs h) ∙ c.if-not-next_in.false) (spans-rest tag_name cs 1 c.in-Some.name (c.in-Some.ensures.read (drop 1 cs) (rest-values (1) cs c.args.line.now h)))
    (spans-rest (repeatedly spaced_attribute) cs (1 + c.in-Some.name) c.attributes_len.result (c.attributes_len.ensures.read (drop (1 + c.in-Some.name) cs) (rest-values (1 + c.in-Some.name) cs c.args.line.now h))) (c.in_default-tag_end_len.ensures.read (drop (1 + c.in-Some.name + c.attributes_len.result) cs) (rest-values (1 + c.in-Some.name + c.attributes_len.result) cs c.args.line.now h))

pub returns-clause-read : goal.returns-clause-read
returns-clause-read c = λ cs h. open-reads cs (1 + c.in-Some.name) (1 + c.in-Some.name + c.attributes_len.result) (1 + c.in-Some.name + c.attributes_len.result + c.in-Some-tag_end_len.len) (sym (c.next_in.ensures.first cs h) ∙ c.if-not-next_in.false) (spans-rest tag_name cs 1 c.in-Some.name (c.in-Some.ensures.read (drop 1 cs) (rest-values (1) cs c.args.line.now h)))
    (spans-rest (repeatedly spaced_attribute) cs (1 + c.in-Some.name) c.attributes_len.result (c.attributes_len.ensures.read (drop (1 + c.in-Some.name) cs) (rest-values (1 + c.in-Some.name) cs c.args.line.now h))) (spans-rest tag_end cs (1 + c.in-Some.name + c.attributes_len.result) c.in-Some-tag_end_len.len (c.in-Some-tag_end_len.ensures.read (drop (1 + c.in-Some.name + c.attributes_len.result) cs) (rest-values (1 + c.in-Some.name + c.attributes_len.result) cs c.args.line.now h)))
