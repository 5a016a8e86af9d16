use Rattle.std.proofs.Common.{◌+◌}
use Rattle.markdown_attention.proofs.RunSearch.{AreOthers}
use Rattle.markdown_attention.proofs.attention.reading.others_among_eight.Given as goal

abbrev pub invariant-loop-count : goal.invariant-loop-count
invariant-loop-count l = AreOthers l.events l.at (l.at + l.count)
