use Rattle.std.proofs.Common.{◌∙◌, sym, subst}
use Rattle.markdown_blocks.specs.TextRows.{HasPlacedText}
use Rattle.markdown_blocks.proofs.FollowLines.{next-none}
use Rattle.markdown_blocks.proofs.read.follow_other.Goals as goal

pub returns-in_ok-stand-in-Without-clause-tree : goal.returns-in_ok-stand-in-Without-clause-tree
returns-in_ok-stand-in-Without-clause-tree c =
    let bytes = c.args.rest.now.bytes in
    let g = rw c.in-Without.is at c.in_ok-leaf.ensures.next in
    c.in_ok-stand-in-Without.ensures.tree ∙ next-none c.args.rest.now.extensions bytes _ c.args.reader.now c.put_leaf.new.reader c.args.leaf c.in-Without.leaf g.0 g.1 c.put_leaf.ensures.path (c.in_ok-put_leaf-in-Without.ensures.tree bytes)

pub returns-in-WithLine-clause-texts : goal.returns-in-WithLine-clause-texts
returns-in-WithLine-clause-texts c = rw c.open_leaf.ensures (c.requires.texts, rw c.in-WithLine.is at c.in_ok-leaf.ensures.text)

pub stand-requires-clause-texts : goal.stand-requires-clause-texts
stand-requires-clause-texts c =
    let bytes = c.args.rest.now.bytes in
    let g = rw c.in-Without.is at c.in_ok-leaf.ensures.next in
    c.in_ok-put_leaf-in-Without.ensures.texts bytes c.requires.standing c.requires.texts (subst (λ l. HasPlacedText bytes l) (sym g.1) c.requires.text.0)
