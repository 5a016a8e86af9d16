use Rattle.std.proofs.Common.{◌+◌, drop, true}
use Rattle.markdown_model.specs.HtmlText.{attribute}
use Rattle.markdown_block_line.proofs.RestValues.{rest-values}
use Rattle.markdown_block_line.proofs.TagReadings.{spans-rest, some-none, some-first, spaced-none, spaced-not, spaced-reads}
use Rattle.markdown_block_line.proofs.tags.spaced_attribute_len.Goals as goal

pub returns-then-spaces-eq0-clause-read : goal.returns-then-spaces-eq0-clause-read
returns-then-spaces-eq0-clause-read c = λ cs h. spaced-none cs (some-none cs _ c.count_in-spaces.result h c.count_in-spaces.ensures.count c.if-spaces-eq0.true)

pub returns-in_default-clause-read : goal.returns-in_default-clause-read
returns-in_default-clause-read c = λ cs h. spaced-not cs c.count_in-spaces.result (some-first cs _ c.count_in-spaces.result h c.count_in-spaces.ensures.count c.if-spaces-eq0.false c.count_in-spaces.ensures.within) (c.in_default.ensures.read (drop c.count_in-spaces.result cs) (rest-values (c.count_in-spaces.result) cs c.args.line.now h))

pub returns-clause-read : goal.returns-clause-read
returns-clause-read c = λ cs h. spaced-reads cs c.count_in-spaces.result (c.count_in-spaces.result + c.in-Some.len) (some-first cs _ c.count_in-spaces.result h c.count_in-spaces.ensures.count c.if-spaces-eq0.false c.count_in-spaces.ensures.within) (spans-rest (attribute true) cs c.count_in-spaces.result c.in-Some.len (c.in-Some.ensures.read (drop c.count_in-spaces.result cs) (rest-values (c.count_in-spaces.result) cs c.args.line.now h)))
