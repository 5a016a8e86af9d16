use Rattle.std.proofs.Common.{map}
use Rattle.markdown_innermost.specs.InnermostEvents.{innermost, lent}
use Rattle.markdown_inline_c.specs.FlatLeaves.{flat_leaf}
use Rattle.markdown_inline_c.proofs.Leaves.{AreLent}
use Rattle.markdown_inline_c.proofs.leaf.flat_leaves.Given as goal

abbrev pub invariant-loop-leaf : goal.invariant-loop-leaf
invariant-loop-leaf l = AreLent (map flat_leaf (map (lent l.bytes) (innermost l.fn.events))) l.found.items l.leaf-iterator
