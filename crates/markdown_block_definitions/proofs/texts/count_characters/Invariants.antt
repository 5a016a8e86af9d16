use Rattle.std.proofs.Common.{◌≡◌, ◌-◌, ◌+◌, ◌≤◌, length, drop, List, true, false}
use Rattle.markdown_content.specs.Codes.{Code}
use Rattle.markdown_model.specs.CodeTests.{values_of}
use Rattle.markdown_model.specs.Resource.{counted}
use Rattle.markdown_block_definitions.specs.TextReadings.{firsts_of}
use Rattle.markdown_block_definitions.proofs.texts.count_characters.Given as goal

abbrev pub invariant-loop-len : goal.invariant-loop-len
invariant-loop-len l = record { few : l.count ≤ l.len; read : (cs : List Code) → values_of cs ≡ l.values → firsts_of cs ≡ l.firsts → counted true false cs ≡ l.count + counted true l.indented (drop l.len cs) }

abbrev pub decreases-loop-len : goal.decreases-loop-len
decreases-loop-len l = length l.values - l.len
