use Rattle.std.proofs.Common.{◌≡◌, ℕ, [], length, drop, get_or}
use Rattle.markdown_attention.specs.RunEdits.{opened_sizes}
use Rattle.markdown_attention.proofs.attention.sizes.Sizes.over.Given as goal

-- the pairs so far, from the last on
abbrev pub invariant-loop-index : goal.invariant-loop-index
invariant-loop-index l = record {
  sizes : (g : ℕ) → get_or l.sizes g [] ≡ opened_sizes g (drop l.index l.pairs);
  len : length l.sizes ≡ l.fn.count;
}
