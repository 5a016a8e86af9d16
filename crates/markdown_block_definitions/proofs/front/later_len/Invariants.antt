use Rattle.std.proofs.Common.{◌≡◌, ◌≤◌, ◌-◌, ◌++◌, List, length, take, drop}
use Rattle.markdown_content.specs.Codes.{Code}
use Rattle.markdown_model.specs.CodeTests.{values_of}
use Rattle.markdown_page_model.specs.PageTexts.{text_of}
use Rattle.markdown_block_definitions.specs.TextReadings.{firsts_of}
use Rattle.markdown_block_definitions.proofs.front.later_len.Given as goal

abbrev pub invariant-loop-len : goal.invariant-loop-len
invariant-loop-len l = record { within : l.len ≤ length l.firsts; text : (cs : List Code) → firsts_of cs ≡ l.firsts → text_of cs ≡ values_of (take l.len cs) ++ text_of (drop l.len cs) }

abbrev pub decreases-loop-len : goal.decreases-loop-len
decreases-loop-len l = length l.firsts - l.len
