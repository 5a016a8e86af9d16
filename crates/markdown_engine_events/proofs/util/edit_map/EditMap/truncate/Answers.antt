use Rattle.std.proofs.Common.{◌∙◌, ap, take}
use Rattle.markdown_engine_events.proofs.EditOrder.{first-seen}
use Rattle.markdown_engine_events.proofs.util.edit_map.EditMap.truncate.Goals as goal

pub invariant_of-self : goal.invariant_of-self
invariant_of-self c =
    (first-seen c.self.inside.comes c.truncate-2.new.self c.self.inside.log c.as_slice-log.result.now c.truncate.new.self c.args.n c.end_of-end.result c.as_slice-log.ensures c.truncate.ensures c.truncate-2.ensures c.self.invariant c.end_of-end.ensures).1

pub returns : goal.returns
returns c = (first-seen c.self.inside.comes c.truncate-2.new.self c.self.inside.log c.as_slice-log.result.now c.truncate.new.self c.args.n c.end_of-end.result c.as_slice-log.ensures c.truncate.ensures c.truncate-2.ensures c.self.invariant c.end_of-end.ensures).0 ∙ ap (take c.args.n) c.self.view_is
