use Rattle.std.proofs.Common.{◌∙◌, sym}
use Rattle.markdown_block_line.specs.LineValues.{is_whitespace_value}
use Rattle.markdown_block_line.proofs.RestValues.{blank-of, all-stops, all-end}
use Rattle.markdown_block_line.proofs.line.is_blank_line.Goals as goal

pub returns-then-not-is_whitespace : goal.returns-then-not-is_whitespace
returns-then-not-is_whitespace c = λ cs h.
    sym (blank-of cs c.args.line.now h ∙ c.loop-value.invariant ∙ all-stops is_whitespace_value c.args.line.now c.loop-value.value-index _ c.loop-value-test.true (sym c.is_whitespace.ensures ∙ c.if-not-is_whitespace.true))

pub returns : goal.returns
returns c = λ cs h. sym (blank-of cs c.args.line.now h ∙ c.loop-value.invariant ∙ all-end is_whitespace_value c.args.line.now c.loop-value.value-index c.loop-value-test.false)
