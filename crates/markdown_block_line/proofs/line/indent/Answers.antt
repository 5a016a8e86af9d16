use Rattle.std.proofs.Common.{arith}
use Rattle.markdown_block_line.specs.LineValues.{is_blank_value}
use Rattle.markdown_block_line.proofs.RestValues.{indent-of, front-le}
use Rattle.markdown_block_line.proofs.line.indent.Goals as goal

pub returns-clause-count : goal.returns-clause-count
returns-clause-count c = λ cs h. omega (arith, c.indent_to.ensures.count cs h, indent-of cs c.args.line.now h, front-le is_blank_value c.args.line.now)
