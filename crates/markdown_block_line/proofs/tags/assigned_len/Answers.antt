use Rattle.std.proofs.Common.{◌∙◌, ◌+◌, sym, drop}
use Rattle.markdown_model.specs.HtmlText.{attribute_value}
use Rattle.markdown_block_line.proofs.RestValues.{rest-values}
use Rattle.markdown_block_line.proofs.TagReadings.{spans-rest, blanks-first, spans-blanks, assigned-none, assigned-not, assigned-reads}
use Rattle.std.proofs.Common.{true}
use Rattle.markdown_block_line.proofs.tags.assigned_len.Goals as goal

pub returns-then-not-next_in-clause-read : goal.returns-then-not-next_in-clause-read
returns-then-not-next_in-clause-read c = λ cs h. assigned-none cs c.count_in-spaces.result (blanks-first cs _ c.count_in-spaces.result h c.count_in-spaces.ensures.count) (sym (c.next_in.ensures.first (drop (c.count_in-spaces.result) cs) (rest-values (c.count_in-spaces.result) cs c.args.line.now h)) ∙ c.if-not-next_in.true)

pub returns-in_default-clause-read : goal.returns-in_default-clause-read
returns-in_default-clause-read c = λ cs h. assigned-not cs c.count_in-spaces.result (c.count_in-spaces.result + 1 + c.count_in.result) (blanks-first cs _ c.count_in-spaces.result h c.count_in-spaces.ensures.count) (sym (c.next_in.ensures.first (drop (c.count_in-spaces.result) cs) (rest-values (c.count_in-spaces.result) cs c.args.line.now h)) ∙ c.if-not-next_in.false) (spans-blanks cs _ (c.count_in-spaces.result + 1) c.count_in.result (rest-values (c.count_in-spaces.result + 1) cs c.args.line.now h) c.count_in.ensures.count) (c.in_default.ensures.read (drop (c.count_in-spaces.result + 1 + c.count_in.result) cs) (rest-values (c.count_in-spaces.result + 1 + c.count_in.result) cs c.args.line.now h))

pub returns-clause-read : goal.returns-clause-read
returns-clause-read c = λ cs h. assigned-reads cs c.count_in-spaces.result (c.count_in-spaces.result + 1 + c.count_in.result) (c.count_in-spaces.result + 1 + c.count_in.result + c.in-Some.len) (blanks-first cs _ c.count_in-spaces.result h c.count_in-spaces.ensures.count) (sym (c.next_in.ensures.first (drop (c.count_in-spaces.result) cs) (rest-values (c.count_in-spaces.result) cs c.args.line.now h)) ∙ c.if-not-next_in.false) (spans-blanks cs _ (c.count_in-spaces.result + 1) c.count_in.result (rest-values (c.count_in-spaces.result + 1) cs c.args.line.now h) c.count_in.ensures.count) (spans-rest (attribute_value true) cs (c.count_in-spaces.result + 1 + c.count_in.result) c.in-Some.len (c.in-Some.ensures.read (drop (c.count_in-spaces.result + 1 + c.count_in.result) cs) (rest-values (c.count_in-spaces.result + 1 + c.count_in.result) cs c.args.line.now h)))
