use Rattle.std.proofs.Common.{◌∙◌, sym}
use Rattle.markdown_block_line.proofs.RestStarts.{any-break}
use Rattle.markdown_block_line.proofs.starts.is_break.Goals as goal

pub returns : goal.returns
returns c = λ cs h. c.is_any_break.ensures ∙ sym (any-break cs c.args.line.now h)
