use Rattle.std.proofs.Common.{sym}
use Rattle.markdown_blocks.specs.BlockRows.{whole_tree}
use Rattle.markdown_blocks.proofs.LazyLines.{joined-none, joined-some, lazy-filled, lazy-text}
use Rattle.markdown_blocks.proofs.read.join.Goals as goal

pub returns-in-None-clause-tree : goal.returns-in-None-clause-tree
returns-in-None-clause-tree c = rw c.take.ensures.after (joined-none c.args.rest.now.bytes c.args.reader.now c.args.rest.now.codes c.requires.between (sym c.in-None.ensures.value))

pub returns-in_ok-leaf-in-Some-clause-tree : goal.returns-in_ok-leaf-in-Some-clause-tree
returns-in_ok-leaf-in-Some-clause-tree c =
    rw c.open_leaf.ensures (joined-some c.args.rest.now.bytes c.args.reader.now _ _ c.args.rest.now.codes c.requires.between (sym c.in-Some.ensures.value) c.in_ok-leaf-in-Some.ensures.leaf)

pub longer-requires-clause-filled : goal.longer-requires-clause-filled
longer-requires-clause-filled c = lazy-filled c.args.rest.now.extensions c.args.rest.now.codes (whole_tree c.args.rest.now.bytes c.args.reader.now) c.requires.lazy

pub longer-requires-clause-is_text : goal.longer-requires-clause-is_text
longer-requires-clause-is_text c = lazy-text c.args.rest.now.extensions c.args.rest.now.bytes c.args.reader.now c.in-Some.leaf c.args.rest.now.codes c.requires.between (sym c.in-Some.ensures.value) c.requires.lazy
