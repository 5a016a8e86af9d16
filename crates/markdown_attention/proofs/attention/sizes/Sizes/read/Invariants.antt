use Rattle.std.proofs.Common.{◌≡◌, ◌≤◌, ◌++◌, [], length, get_or}
use Rattle.markdown_attention.specs.SizeNodes.{sizes_from}
use Rattle.markdown_attention.proofs.attention.sizes.Sizes.read.Given as goal

-- those so far, and those that are left
abbrev pub invariant-loop-at : goal.invariant-loop-at
invariant-loop-at l = record {
  within : l.at ≤ length l.self-inside.nodes;
  sizes : l.into.items ++ sizes_from l.self-inside.nodes l.at ≡ get_or l.self l.run [];
}

abbrev pub decreases-loop-at : goal.decreases-loop-at
decreases-loop-at l = l.at
