use Rattle.std.proofs.Common.{refl, rules}
use Rattle.markdown_blocks.proofs.ReaderTrees.{deeper}
use Rattle.markdown_blocks.proofs.PlacedTexts.{rows-container}
use Rattle.markdown_blocks.proofs.read.put_container.Goals as goal

pub returns-clause-deeper : goal.returns-clause-deeper
returns-clause-deeper c = λ bytes s. deeper bytes c.args.reader.now _ c.args.container _ c.in_ok-push.ensures.items (search rules) c.in_ok-push-2.ensures refl s

pub returns-clause-texts : goal.returns-clause-texts
returns-clause-texts c = λ bytes s h. rows-container bytes c.args.reader.now _ _ c.args.container c.in_ok-push.ensures.items (search rules) s h
