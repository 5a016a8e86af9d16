use Rattle.std.proofs.Common.{◌≡◌, ◌≤◌, ◌-◌, length, List}
use Rattle.markdown_content.specs.Codes.{Code}
use Rattle.markdown_model.specs.CodeTests.{values_of}
use Rattle.markdown_block_definitions.specs.TextReadings.{firsts_of}
use Rattle.markdown_block_definitions.proofs.FrontTexts.{IsCollected}
use Rattle.markdown_block_definitions.proofs.front.read_front.Given as goal

abbrev pub invariant-loop-found : goal.invariant-loop-found
invariant-loop-found l = record { within : l.len ≤ length l.values; collected : (cs : List Code) → values_of cs ≡ l.values → firsts_of cs ≡ l.firsts → IsCollected cs l.len l.definitions.items }

abbrev pub decreases-loop-found : goal.decreases-loop-found
decreases-loop-found l = length l.values - l.len
