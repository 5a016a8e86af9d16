use Rattle.std.proofs.Common.{◌≡◌, map, length}
use Rattle.markdown_leaf_gfm.specs.GfmAutolinkLiteral.{one_named}
use Rattle.markdown_leaf_gfm.proofs.gfm_autolink_literal.one_named.Given as goal

abbrev pub invariant-loop-words : goal.invariant-loop-words
invariant-loop-words l = one_named (map (λ w. w.now) l.words) l.name ≡ one_named (map (λ w. w.now) l.fn.words) l.name

abbrev pub decreases-loop-words : goal.decreases-loop-words
decreases-loop-words l = length l.words
