use Rattle.std.proofs.Common.{◌∙◌, ◌+◌, sym, drop}
use Rattle.markdown_model.specs.HtmlText.{tag_name}
use Rattle.markdown_block_line.proofs.RestValues.{rest-values}
use Rattle.markdown_block_line.proofs.TagReadings.{spans-rest, spans-blanks, closing-away, closing-here, closing-nameless, closing-unended, closing-reads}
use Rattle.markdown_block_line.proofs.tags.closing_tag_len.Goals as goal

pub returns-then-not-starts_with-clause-read : goal.returns-then-not-starts_with-clause-read
returns-then-not-starts_with-clause-read c = λ cs h. closing-away cs _ c.starts_with.result h c.starts_with.ensures.value c.if-not-starts_with.true

pub returns-in_default-clause-read : goal.returns-in_default-clause-read
returns-in_default-clause-read c = λ cs h. closing-nameless cs (closing-here cs _ c.starts_with.result h c.starts_with.ensures.value c.if-not-starts_with.false) (c.in_default.ensures.read (drop 2 cs) (rest-values (2) cs c.args.line.now h))

pub returns-then-not-next_in-clause-read : goal.returns-then-not-next_in-clause-read
returns-then-not-next_in-clause-read c = λ cs h. closing-unended cs (2 + c.in-Some.name) (2 + c.in-Some.name + c.count_in.result) (closing-here cs _ c.starts_with.result h c.starts_with.ensures.value c.if-not-starts_with.false) (spans-rest tag_name cs 2 c.in-Some.name (c.in-Some.ensures.read (drop 2 cs) (rest-values (2) cs c.args.line.now h)))
    (spans-blanks cs _ (2 + c.in-Some.name) c.count_in.result (rest-values (2 + c.in-Some.name) cs c.args.line.now h) c.count_in.ensures.count) (sym (c.next_in.ensures.first (drop (2 + c.in-Some.name + c.count_in.result) cs) (rest-values (2 + c.in-Some.name + c.count_in.result) cs c.args.line.now h)) ∙ c.if-not-next_in.true)

pub returns-clause-read : goal.returns-clause-read
returns-clause-read c = λ cs h. closing-reads cs (2 + c.in-Some.name) (2 + c.in-Some.name + c.count_in.result) (closing-here cs _ c.starts_with.result h c.starts_with.ensures.value c.if-not-starts_with.false) (spans-rest tag_name cs 2 c.in-Some.name (c.in-Some.ensures.read (drop 2 cs) (rest-values (2) cs c.args.line.now h)))
    (spans-blanks cs _ (2 + c.in-Some.name) c.count_in.result (rest-values (2 + c.in-Some.name) cs c.args.line.now h) c.count_in.ensures.count) (sym (c.next_in.ensures.first (drop (2 + c.in-Some.name + c.count_in.result) cs) (rest-values (2 + c.in-Some.name + c.count_in.result) cs c.args.line.now h)) ∙ c.if-not-next_in.false)
