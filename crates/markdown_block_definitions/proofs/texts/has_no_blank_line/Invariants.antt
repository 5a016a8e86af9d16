use Rattle.std.proofs.Common.{◌≡◌, ◌-◌, length, drop, List, true}
use Rattle.markdown_content.specs.Codes.{Code}
use Rattle.markdown_content.specs.Content.{has_no_blank_line}
use Rattle.markdown_model.specs.CodeTests.{values_of}
use Rattle.markdown_block_definitions.proofs.texts.has_no_blank_line.Given as goal

abbrev pub invariant-loop-len : goal.invariant-loop-len
invariant-loop-len l = record { read : (cs : List Code) → values_of cs ≡ l.values → has_no_blank_line true cs ≡ has_no_blank_line l.filled (drop l.len cs) }

abbrev pub decreases-loop-len : goal.decreases-loop-len
decreases-loop-len l = length l.values - l.len
