use Rattle.std.proofs.Common.{◌≡◌, ◌-◌, ◌≤◌, length, drop, List, false}
use Rattle.markdown_content.specs.Codes.{Code}
use Rattle.markdown_model.specs.CodeTests.{values_of}
use Rattle.markdown_model.specs.Resource.{raw_from}
use Rattle.markdown_block_definitions.specs.TextReadings.{left_by}
use Rattle.markdown_block_definitions.proofs.destinations.raw_len.Given as goal

abbrev pub invariant-loop-len : goal.invariant-loop-len
invariant-loop-len l = record { within : l.len ≤ length l.values; read : (cs : List Code) → values_of cs ≡ l.values → left_by (raw_from 32 false 0 cs) ≡ left_by (raw_from 32 l.slash l.depth (drop l.len cs)) }

abbrev pub decreases-loop-len : goal.decreases-loop-len
decreases-loop-len l = length l.values - l.len
