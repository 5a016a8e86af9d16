use Rattle.markdown_attention.proofs.LabelTreeMayPair.{left-paired, left-probed}
use Rattle.markdown_attention.proofs.attention.grouping.resolve_counted.Goals as goal

pub returns-in-Ok-clause-paired : goal.returns-in-Ok-clause-paired
returns-in-Ok-clause-paired c =
    left-paired c.args.tokenizer.now c.pair_and_group.new.tokenizer.events c.in-Ok.count c.in-Ok.ensures.grouped c.requires.places

pub returns-in-Ok-clause-probed : goal.returns-in-Ok-clause-probed
returns-in-Ok-clause-probed c =
    left-probed c.args.tokenizer.now c.pair_and_group.new.tokenizer.events c.in-Ok.count c.in-Ok.ensures.grouped
