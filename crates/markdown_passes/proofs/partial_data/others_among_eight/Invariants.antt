use Rattle.std.proofs.Common.{◌+◌}
use Rattle.markdown_passes.proofs.DataSearch.{BeginsNone}
use Rattle.markdown_passes.proofs.partial_data.others_among_eight.Given as goal

-- no data begins before the event at hand
abbrev pub invariant-loop-count : goal.invariant-loop-count
invariant-loop-count l = BeginsNone l.events l.at (l.at + l.count)
