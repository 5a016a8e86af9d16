use Rattle.markdown_passes.proofs.TrimmedLeaves.{pushed-leaf, leaf-none}
use Rattle.markdown_passes.proofs.partial_whitespace.push_leaf.Goals as goal

pub returns-in_ok-push-2 : goal.returns-in_ok-push-2
returns-in_ok-push-2 c =
    pushed-leaf c.args.name c.args.from c.args.to c.args.events.now.items _ _ c.is_same_place.result c.is_same_place.ensures c.if-not-is_same_place.true c.in_ok-push.ensures.items c.in_ok-push-2.ensures.items

pub returns-else-not-is_same_place : goal.returns-else-not-is_same_place
returns-else-not-is_same_place c =
    leaf-none c.args.name c.args.from c.args.to c.args.events.now.items c.is_same_place.result c.is_same_place.ensures c.if-not-is_same_place.false
