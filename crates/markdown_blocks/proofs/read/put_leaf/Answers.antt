use Rattle.std.proofs.Common.{refl, rules}
use Rattle.markdown_blocks.specs.BlockRows.{depth}
use Rattle.markdown_blocks.proofs.ReaderTrees.{put-leaf, standing-leaf}
use Rattle.markdown_blocks.proofs.PlacedTexts.{rows-leaf}
use Rattle.markdown_blocks.proofs.read.put_leaf.Goals as goal

pub returns-clause-tree : goal.returns-clause-tree
returns-clause-tree c = λ bytes. put-leaf bytes _ _ _ (depth c.args.reader.now) c.args.leaf c.in_ok-push.ensures.items (search rules)

pub returns-clause-standing : goal.returns-clause-standing
returns-clause-standing c = λ bytes h. standing-leaf bytes c.args.reader.now _ c.args.leaf (put-leaf bytes _ _ _ (depth c.args.reader.now) c.args.leaf c.in_ok-push.ensures.items (search rules)) refl refl h

pub returns-clause-texts : goal.returns-clause-texts
returns-clause-texts c = λ bytes s h t. rows-leaf bytes c.args.reader.now _ _ c.args.leaf c.in_ok-push.ensures.items (search rules) s h t
