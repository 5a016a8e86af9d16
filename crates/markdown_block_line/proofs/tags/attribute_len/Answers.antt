use Rattle.std.proofs.Common.{◌+◌, drop}
use Rattle.markdown_block_line.specs.LineTags.{name, assigned_value}
use Rattle.markdown_block_line.specs.declared.tags.Class.TheVariants.{NameStart, AttributeName}
use Rattle.markdown_block_line.proofs.RestValues.{rest-values}
use Rattle.markdown_block_line.proofs.TagReadings.{spans-first, spans-rest, spans-optional, spans-nothing, attribute-none, attribute-reads}
use Rattle.markdown_block_line.proofs.tags.attribute_len.Goals as goal

pub returns-in_default-clause-read : goal.returns-in_default-clause-read
returns-in_default-clause-read c = λ cs h. attribute-none cs (c.in_default.ensures.read cs h)

pub returns-in_default-assigned_len-clause-read : goal.returns-in_default-assigned_len-clause-read
returns-in_default-assigned_len-clause-read c = λ cs h. attribute-reads cs c.in-Some.name c.in-Some.name (spans-first (name NameStart AttributeName) cs c.in-Some.name (c.in-Some.ensures.read cs h)) (spans-nothing assigned_value cs c.in-Some.name (c.in_default-assigned_len.ensures.read (drop c.in-Some.name cs) (rest-values (c.in-Some.name) cs c.args.line.now h)))

pub returns-clause-read : goal.returns-clause-read
returns-clause-read c = λ cs h. attribute-reads cs c.in-Some.name (c.in-Some.name + c.in-Some-assigned_len.len) (spans-first (name NameStart AttributeName) cs c.in-Some.name (c.in-Some.ensures.read cs h))
    (spans-optional assigned_value cs c.in-Some.name (c.in-Some.name + c.in-Some-assigned_len.len) (spans-rest assigned_value cs c.in-Some.name c.in-Some-assigned_len.len (c.in-Some-assigned_len.ensures.read (drop c.in-Some.name cs) (rest-values (c.in-Some.name) cs c.args.line.now h))))
