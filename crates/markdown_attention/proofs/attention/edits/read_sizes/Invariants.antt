use Rattle.std.proofs.Common.{◌≡◌, take}
use Rattle.markdown_attention.specs.PairSizes.{sizes_of}
use Rattle.markdown_attention.proofs.attention.edits.read_sizes.Given as goal

-- the sizes so far
abbrev pub invariant-loop-pair : goal.invariant-loop-pair
invariant-loop-pair l = l.into.items ≡ sizes_of (take l.pair-index l.pairs)
