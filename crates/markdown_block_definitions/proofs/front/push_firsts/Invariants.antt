use Rattle.std.proofs.Common.{◌≡◌, ◌-◌, ◌++◌, List, length, take}
use Rattle.markdown_content.specs.Codes.{Code}
use Rattle.markdown_model.specs.CodeTests.{values_of}
use Rattle.markdown_block_definitions.specs.TextReadings.{firsts_of, first_columns}
use Rattle.markdown_block_definitions.proofs.front.push_firsts.Given as goal

abbrev pub invariant-loop-index : goal.invariant-loop-index
invariant-loop-index l = (cs : List Code) → values_of cs ≡ l.values → firsts_of cs ≡ l.firsts → l.text.items ≡ l.initial.text.items ++ values_of (first_columns (take l.index cs))

abbrev pub decreases-loop-index : goal.decreases-loop-index
decreases-loop-index l = length l.values - l.index
