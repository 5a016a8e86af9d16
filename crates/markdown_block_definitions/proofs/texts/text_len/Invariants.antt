use Rattle.std.proofs.Common.{◌≡◌, ◌-◌, length, drop, List}
use Rattle.markdown_content.specs.Codes.{Code}
use Rattle.markdown_model.specs.CodeTests.{values_of}
use Rattle.markdown_block_definitions.specs.TextReadings.{left_by, text_from, text_of}
use Rattle.markdown_block_definitions.proofs.texts.text_len.Given as goal

abbrev pub invariant-loop-len : goal.invariant-loop-len
invariant-loop-len l = record { read : (cs : List Code) → values_of cs ≡ l.values → left_by (text_of l.text cs) ≡ left_by (text_from l.text l.slash (drop l.len cs)) }

abbrev pub decreases-loop-len : goal.decreases-loop-len
decreases-loop-len l = length l.values - l.len
