use Rattle.std.proofs.Common.{◌+◌}
use Rattle.markdown_content.specs.PlainBytes.{ArePlain}
use Rattle.markdown_content.proofs.lanes.plain_among_eight.Given as goal

abbrev pub invariant-loop-count : goal.invariant-loop-count
invariant-loop-count l = ArePlain l.stops l.bytes l.at (l.at + l.count)
