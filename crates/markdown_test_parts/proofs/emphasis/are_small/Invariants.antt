use Rattle.std.proofs.Common.{◌≡◌, take}
use Rattle.markdown_attention.specs.NumberedPairs.{markers_left}
use Rattle.markdown_test_parts.proofs.emphasis.are_small.Given as goal

-- the runs so far
abbrev pub invariant-loop-run : goal.invariant-loop-run
invariant-loop-run l = l.markers ≡ markers_left (take l.run-index l.list)
