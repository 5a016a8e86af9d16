use Rattle.std.proofs.Common.{◌≡◌, length}
use Rattle.markdown_leaf_gfm.specs.GfmAutolinkLiteral.{is_named}
use Rattle.markdown_leaf_gfm.proofs.gfm_autolink_literal.is_named.Given as goal

abbrev pub invariant-loop-word : goal.invariant-loop-word
invariant-loop-word l = is_named l.name l.word ≡ is_named l.fn.name l.fn.word

abbrev pub decreases-loop-word : goal.decreases-loop-word
decreases-loop-word l = length l.word
